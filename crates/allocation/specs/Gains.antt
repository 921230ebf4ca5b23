-- The test of the counts after a step: the branches of one list gain a place each, and those of another lose one. Assumes nothing.
use Rattle.std.specs.Prelude.{Bool, List, ℕ, ◌+◌, ◌-◌, leb, get_or}
use Rattle.units.specs.Limits.{most_count}
use Rattle.rules.specs.Tables.{all, times}
use Rattle.counting.specs.Places.{place_of}

-- a count that gains gs and loses ds
abbrev pub fits_count : ℕ → List ℕ → List ℕ → ℕ → Bool
fits_count count gs ds b = leb ((count + times b gs) - times b ds) most_count

unfoldable pub gain_fits : List ℕ → List ℕ → List ℕ → ℕ → Bool
gain_fits counts gains losses b = fits_count (get_or counts (place_of b) 0) gains losses b

unfoldable pub gains_fit : List ℕ → List ℕ → List ℕ → Bool
gains_fit counts gains losses = all (gain_fits counts gains losses) gains
