-- The counts that the bytes of a tree have, right or not: of each node the ways to it, of each branch its places over all ways.
-- Assumes nothing.
use Rattle.std.specs.Prelude.{◌≡◌, ◌↔◌, Result, IsOk, OnOk, IsOkUnless, List, ℕ, ◌≤◌, length, get_or}
use Rattle.units.specs.Limits.{last_unit, longest, most_count}
use Rattle.units.specs.declared.Refusal.{Refusal}
use Rattle.units.specs.declared.Refusal.TheVariants.{RecountTooHigh}
use Rattle.ways.specs.Ways.{sums, total, is}
use Rattle.rules.specs.Tables.{times}
use Rattle.rules.specs.Store.{root_list}
use Rattle.counting.specs.Places.{place_of}
use Rattle.counting.specs.Graph.{children_in, buffers_in}

abbrev pub ways_in : List ℕ → ℕ → ℕ
ways_in tree u = sums (total (children_in tree) (is u) longest) (root_list (get_or tree 0 0))

abbrev pub places_in : List ℕ → ℕ → ℕ
places_in tree b = sums (total (children_in tree) (λ v. times b (buffers_in tree v)) longest) (root_list (get_or tree 0 0))

-- every count fits
pub record Fits (tree : List ℕ) : Type 0 where
  pub ways : (u : ℕ) → u ≤ last_unit → ways_in tree u ≤ most_count
  pub places : (b : ℕ) → b ≤ last_unit → places_in tree b ≤ most_count

-- these are the counts
pub record Counts (tree counts : List ℕ) : Type 0 where
  pub long : length counts ≡ 512
  pub ways : (u : ℕ) → u ≤ last_unit → get_or counts u 0 ≡ ways_in tree u
  pub places : (b : ℕ) → b ≤ last_unit → get_or counts (place_of b) 0 ≡ places_in tree b

-- done just when every count fits, and refused for that alone; done, the counts are these
pub record Recounted (tree counts : List ℕ) (r : Result (Unit {0}) Refusal) : Type 0 where
  pub whether : IsOk r ↔ Fits tree
  pub refused : IsOkUnless r RecountTooHigh
  pub right : OnOk r (Counts tree counts)
