-- The nodes that the steps 4 to 9 make, as code has nodes: numbers and eight places. Assumes nothing.
use Rattle.std.specs.Prelude.{List, [], ◌∷◌, map, ℕ, ◌-◌, get_or, length, take}
use Rattle.rules.specs.Steps.{moved}
use Rattle.records.specs.Rows.{eight}
use Rattle.counting.specs.declared.Node.{Node}
use Rattle.eights.specs.Eights.{replaced, number_after}

-- ---- lists of a node

unfoldable pub replace_buffers : Node → ℕ → ℕ → List ℕ → Node
replace_buffers n at gone come = record {
  buffer_number = number_after n.buffer_number at gone (length come);
  buffers = eight (replaced n.buffers at gone come);
  child_number = n.child_number;
  children = n.children;
  offsets = n.offsets;
}

-- each child has its offset
unfoldable pub replace_children : Node → ℕ → ℕ → List ℕ → List ℕ → Node
replace_children n at gone come with = record {
  buffer_number = n.buffer_number;
  buffers = n.buffers;
  child_number = number_after n.child_number at gone (length come);
  children = eight (replaced n.children at gone come);
  offsets = eight (replaced n.offsets at gone with);
}

abbrev pub with_offsets : Node → List ℕ → Node
with_offsets n os = record {
  buffer_number = n.buffer_number;
  buffers = n.buffers;
  child_number = n.child_number;
  children = n.children;
  offsets = os;
}

-- ---- nodes that come

abbrev pub with_buffer : Node → ℕ → Node
with_buffer n b = replace_buffers n n.buffer_number 0 (b ∷ [])

abbrev pub offset_of : Node → ℕ → ℕ
offset_of n c = get_or n.offsets c 0

abbrev pub with_child : Node → ℕ → ℕ → Node
with_child n i u = replace_children n i 1 (u ∷ []) (offset_of n i ∷ [])

abbrev pub split_parent : Node → ℕ → ℕ → ℕ → Node
split_parent n c l r = replace_children n c 1 (l ∷ r ∷ []) (offset_of n c ∷ offset_of n c ∷ [])

abbrev pub left_of : Node → ℕ → Node
left_of m a = replace_children m a m.child_number [] []

abbrev pub right_of : Node → ℕ → Node
right_of m a = replace_children m 0 a [] []

unfoldable pub flush_parent : Node → ℕ → ℕ → ℕ → Node
flush_parent n c gc g =
    let flushed : Node = replace_children n c 1 (g ∷ []) (n.buffer_number ∷ []) in
    with_offsets (replace_buffers flushed 0 gc []) (eight (map (λ o. o - gc) flushed.offsets))

abbrev pub gained : Node → ℕ → List ℕ
gained n c = eight (replaced n.buffers 0 (offset_of n c) [])

abbrev pub flush_child : Node → Node → ℕ → Node
flush_child n m c = replace_buffers m m.buffer_number 0 (take (n.buffer_number - offset_of n c) (gained n c))

unfoldable pub commit_node : Node → ℕ → ℕ → ℕ → Node
commit_node n start end b = with_offsets (replace_buffers n start (end - start) (b ∷ [])) (eight (map (moved start end) n.offsets))
