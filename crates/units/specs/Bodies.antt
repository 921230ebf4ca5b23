-- The bodies of the ten kinds of record, part by part as the table of document 01 lists them, and so their lengths.
-- Assumes nothing.
use Rattle.std.specs.Prelude.{ℕ, ◌+◌, List, [], ◌∷◌, get_or}

-- a slot, a unit, an index or a number takes a byte; a path's indexes and its fresh units take 7 each
abbrev pub byte : ℕ
byte = 1

abbrev pub indexes : ℕ
indexes = 7

-- depth, indexes, fresh units
abbrev pub path : ℕ
path = byte + indexes + indexes

abbrev pub sum_of : List ℕ → ℕ
sum_of [] = 0
sum_of (n ∷ ns) = n + sum_of ns

-- by kind, from 1 on
abbrev pub body_parts : List (List ℕ)
body_parts =
    []
    ∷ (byte ∷ byte ∷ [])
    ∷ (byte ∷ byte ∷ [])
    ∷ (byte ∷ [])
    ∷ (byte ∷ byte ∷ [])
    ∷ (byte ∷ [])
    ∷ (path ∷ byte ∷ byte ∷ byte ∷ byte ∷ byte ∷ [])
    ∷ (path ∷ byte ∷ byte ∷ byte ∷ byte ∷ [])
    ∷ (byte ∷ byte ∷ indexes ∷ byte ∷ byte ∷ [])
    ∷ (byte ∷ byte ∷ path ∷ byte ∷ byte ∷ byte ∷ [])
    ∷ (byte ∷ [])
    ∷ []

-- the length of a kind's body
abbrev pub body_length : ℕ → ℕ
body_length kind = sum_of (get_or body_parts kind [])
