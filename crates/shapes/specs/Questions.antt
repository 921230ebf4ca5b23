-- What the steps ask of the nodes that stand, as code has nodes: lines 7, 8 and 9 of the table. Assumes nothing.
use Rattle.std.specs.Prelude.{Bool, ◌&&◌, cond, List, [], ◌∷◌, ℕ, ◌+◌, ◌-◌, eqb, leb, ltb, take}
use Rattle.units.specs.Limits.{room}
use Rattle.rules.specs.Tables.{all, eqs}
use Rattle.records.specs.Rows.{eight}
use Rattle.counting.specs.declared.Node.{Node}
use Rattle.eights.specs.Eights.{replaced}
use Rattle.shapes.specs.Shapes.{offset_of}

unfoldable pub split_share_fits : Node → ℕ → Bool
split_share_fits m a = cond (eqb m.child_number 0) (eqb a 0) (leb 1 a && ltb a m.child_number)

unfoldable pub gc_fits : Node → ℕ → ℕ → Bool
gc_fits n c gc =
    all (λ o. leb gc o) (take n.child_number (eight (replaced n.offsets c 1 (n.buffer_number ∷ [])))) && leb gc n.buffer_number

unfoldable pub part_fits : Node → ℕ → ℕ → Bool
part_fits n start end = ltb start end && leb end n.buffer_number

unfoldable pub part_is : Node → ℕ → ℕ → ℕ → List ℕ → Bool
part_is n start end number input =
    eqb (end - start) number && eqs (take number (eight (replaced n.buffers 0 start []))) (take number input)

abbrev pub room_for_buffer : Node → Bool
room_for_buffer n = ltb n.buffer_number room

abbrev pub room_for_child : Node → Bool
room_for_child n = ltb n.child_number room

abbrev pub flush_room : Node → Node → ℕ → Bool
flush_room n m c = leb (m.buffer_number + (n.buffer_number - offset_of n c)) room
