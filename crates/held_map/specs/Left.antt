-- The units that the iterator over a word has left. Assumes nothing.
use Rattle.std.specs.Prelude.{List, ℕ}
use Rattle.held_map.specs.Lists.{bits_of}
use Rattle.held_map.specs.declared.Units.{Units}

abbrev pub left : Units → List ℕ
left s = bits_of 64 s.base s.word
