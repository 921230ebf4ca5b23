-- The limits of document 01, "What the store holds", each named once; no other definition writes its number again.
-- Assumes nothing.
use Rattle.std.specs.Prelude.{ℕ}

-- "Units are 1 to 255. Unit 0 is reserved"
abbrev pub last_unit : ℕ
last_unit = 255

-- the places of a list in a record: buffers, children and offsets of a node, units of a branch or a slot, roots of an input
abbrev pub room : ℕ
room = 8

-- "Every way down has at most 8 nodes"
abbrev pub longest : ℕ
longest = 8

-- "A count is at most 65,535"
abbrev pub most_count : ℕ
most_count = 65535

-- unfinished slots, compactor slots
abbrev pub slot_count : ℕ
slot_count = 4

abbrev pub compactor_count : ℕ
compactor_count = 4

-- the kinds of step are 1 to 10
abbrev pub last_kind : ℕ
last_kind = 10

-- the bytes that the writer of images wants
abbrev pub writer_wants : ℕ
writer_wants = 8192
