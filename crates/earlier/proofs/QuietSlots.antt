-- Laws of quiet for loops and answers that src/ no longer has. Assumes nothing.
use mathlib.Core.Path.{◌≡◌, ap, ◌∙◌}
use mathlib.Core.List.{List, []}
use Prim.Native.Nat.{ℕ}
use Rattle.held_map.specs.Map.{clears}
use Rattle.records.specs.Rows.{eight}
use Rattle.tables.specs.declared.Slot.{Slot}
use Rattle.tables.specs.Hold.{slot_in}
use Rattle.eights.specs.Eights.{replaced}
use Rattle.quiet.specs.Slots.{seal_map}

-- what the code of seal leaves in the map
pub seal_map_lem : (hold map map' gone : List ℕ) (k n : ℕ) (x : Slot) → x ≡ slot_in hold k → gone ≡ eight (replaced x.units 0 n []) → map' ≡ clears map gone → map' ≡ seal_map hold map k n
unfolding seal_map
seal_map_lem hold map map' gone k n x ex eg em = em ∙ ap (clears map) (eg ∙ ap (λ (y : Slot). eight (replaced y.units 0 n [])) ex)
