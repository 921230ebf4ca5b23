-- "A voyage through one store": the starred cases of document 01 as one table, and the test that runs it.
-- Assumes nothing.
use Rattle.std.specs.Prelude.{ℕ, Bool, true, false, ◌&&◌, List, [], ◌∷◌, ◌++◌, eqb, length, replicate}
use Rattle.units.specs.Limits.{last_unit}
use Rattle.rules.specs.Tables.{all, eqs}
use Rattle.rules.specs.Store.{Node, Store, empty_store, node_at, frees, ways, places, held_units}
use Rattle.rules.specs.Steps.{Outcome, accepted, refused, step_in}
use Rattle.rules.specs.Images.{image}
use Rattle.rules.specs.Loads.{load}

-- what a step answers
pub data Says : Type 0 where
  ok : List ℕ → Says
  no : ℕ → Says

-- a record and its answer; counts of nodes, counts of branches, a node's lists, the held number; the image; two ways to go on
pub data Voyage : Type 0 where
  port : Voyage
  sail : List ℕ → Says → Voyage → Voyage
  node_counts branch_counts : List (ℕ × ℕ) → Voyage → Voyage
  shows : ℕ → Node → Voyage → Voyage
  number : ℕ → Voyage → Voyage
  looks : List ℕ → Voyage → Voyage
  fork : Voyage → Voyage → Voyage

abbrev told : Store → Outcome → Says → (Store → Bool) → Bool
told s (accepted s') (ok us) go = eqs (frees s s') us && go s'
told s (accepted s') (no n) go = false
told s (refused n) (ok us) go = false
told s (refused n) (no m) go = eqb n m && go s

abbrev alike : Node → Node → Bool
alike n m = eqs n.buffers m.buffers && (eqs n.children m.children && eqs n.offsets m.offsets)

unfoldable pub runs : Store → Voyage → Bool
runs s port = true
runs s (sail r a v) = told s (step_in s last_unit r) a (λ s'. runs s' v)
runs s (node_counts cs v) = all (λ e. eqb (ways s e.0) e.1) cs && runs s v
runs s (branch_counts cs v) = all (λ e. eqb (places s e.0) e.1) cs && runs s v
runs s (shows u n v) = alike (node_at s u) n && runs s v
runs s (number n v) = eqb (length (held_units s)) n && runs s v
runs s (looks b v) = eqs (image s) b && runs s v
runs s (fork v v') = runs s v && runs s v'

-- from the store that an image says
unfoldable pub from : List ℕ → Voyage → Bool
from b v = go (load b)
  where
    go : Outcome → Bool
    go (accepted s) = runs s (looks b v)
    go (refused n) = false

abbrev pub zs : ℕ → List ℕ
zs n = replicate n 0

-- take and seal one unit in slot 0
abbrev branch : ℕ → Voyage → Voyage
branch u v = sail (1 ∷ 0 ∷ u ∷ []) (ok []) (sail (2 ∷ 0 ∷ 1 ∷ []) (ok []) v)

abbrev begin : ℕ → ℕ → List ℕ
begin k i = 8 ∷ k ∷ 1 ∷ i ∷ (zs 6 ++ (0 ∷ 2 ∷ []))

abbrev commit : ℕ → ℕ → ℕ → List ℕ
commit i f n = 9 ∷ 0 ∷ 0 ∷ 1 ∷ i ∷ (zs 6 ++ (f ∷ (zs 6 ++ (0 ∷ 2 ∷ n ∷ []))))

-- a leaf with one buffer, and a branch of one unit, with their counts
abbrev pub leaf_image : ℕ → ℕ → ℕ → List ℕ → List ℕ
leaf_image u b c more = 33 ∷ u ∷ 1 ∷ b ∷ (zs 7 ++ (0 ∷ (zs 16 ++ (c ∷ 0 ∷ more))))

abbrev pub unit_image : ℕ → ℕ → List ℕ
unit_image u c = 34 ∷ 1 ∷ u ∷ (zs 7 ++ (c ∷ 0 ∷ []))

-- the 44 bytes of case 2
abbrev pub image2 : List ℕ
image2 = 32 ∷ 9 ∷ leaf_image 9 5 1 (unit_image 5 1)

unfoldable pub cases : Voyage
cases =
    -- 1, 2
    looks (32 ∷ 0 ∷ [])
    (branch 5 (sail (4 ∷ 0 ∷ 9 ∷ []) (ok [])
    (number 2 (looks image2
    -- 3, 4
    (sail (5 ∷ 10 ∷ []) (ok [])
    (branch 6 (sail (4 ∷ 0 ∷ 11 ∷ []) (ok (10 ∷ []))
    -- 5: gc 2, then gc 1
    (sail (7 ∷ (zs 15 ++ (0 ∷ 2 ∷ 12 ∷ 13 ∷ []))) (no 7)
    (sail (7 ∷ (zs 15 ++ (0 ∷ 1 ∷ 12 ∷ 13 ∷ []))) (ok (9 ∷ 11 ∷ []))
    (shows 13 (record { buffers = 5 ∷ 6 ∷ []; children = []; offsets = [] }) (branch_counts ((5, 1) ∷ (6, 1) ∷ [])
    -- 6
    (sail (6 ∷ (zs 15 ++ (0 ∷ 0 ∷ 14 ∷ 15 ∷ 16 ∷ []))) (ok (12 ∷ 13 ∷ []))
    (branch_counts ((5, 2) ∷ (6, 2) ∷ [])
    -- 7
    (sail (begin 0 0) (ok [])
    (branch 7 (sail (commit 0 17 18) (ok (14 ∷ 15 ∷ []))
    (branch_counts ((5, 1) ∷ (6, 1) ∷ [])
    -- 8, with a second compactor and without
    (sail (begin 0 1) (ok [])
    (branch 8
    (fork
    (sail (begin 1 1) (ok []) (sail (commit 1 19 20) (ok (16 ∷ 17 ∷ [])) (sail (10 ∷ 1 ∷ []) (ok (5 ∷ 6 ∷ [])) port)))
    (sail (commit 1 19 20) (ok (5 ∷ 6 ∷ 16 ∷ 17 ∷ []))
    -- 9
    (sail (1 ∷ 0 ∷ 5 ∷ []) (ok []) (sail (1 ∷ 0 ∷ 8 ∷ []) (no 11) port)))))))))))))))))))))))

-- 10
abbrev pub image10 : List ℕ
image10 = 32 ∷ 1 ∷ 33 ∷ 1 ∷ 0 ∷ (zs 8 ++ (2 ∷ 2 ∷ 2 ∷ (zs 14 ++ (1 ∷ 0 ∷ leaf_image 2 3 2 (unit_image 3 2)))))

unfoldable pub case10 : Voyage
case10 =
    node_counts ((1, 1) ∷ (2, 2) ∷ []) (branch_counts ((3, 2) ∷ [])
    (sail (6 ∷ (zs 15 ++ (0 ∷ 0 ∷ 4 ∷ 5 ∷ 6 ∷ []))) (ok (1 ∷ []))
    (node_counts ((2, 1) ∷ []) (branch_counts ((3, 3) ∷ []) port))))

-- document 01's starred cases
unfoldable pub starred_cases : Bool
starred_cases = runs empty_store cases && from image10 case10
