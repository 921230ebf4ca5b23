-- The ways down a graph, summed: `walk b children w d u` adds up `w` over every way of at most d nodes that starts at u.
-- No limit is baked in: any graph `kids`, any weight `w`, any fuel. Assumes nothing.
use Rattle.std.specs.Prelude.{◌≡◌, ℕ, zero, suc, ◌+◌, ◌<◌, Bool, true, false, ◌||◌, ◌&&◌, List, [], ◌∷◌, ◌++◌, eqb, leb, T, length, get_or, set}

-- f summed over a list
abbrev pub sums : (ℕ → ℕ) → List ℕ → ℕ
sums f [] = 0
sums f (c ∷ cs) = f c + sums f cs

abbrev pub one : Bool → ℕ
one true = 1
one false = 0

-- the weight 'is x'
abbrev pub is : ℕ → ℕ → ℕ
is x v = one (eqb v x)

-- x stands in the list
abbrev pub has : ℕ → List ℕ → Bool
has x [] = false
has x (y ∷ ys) = eqb y x || has x ys

-- all the ways that lead to v, n of them, are among those that go
abbrev pub gone : ℕ → List ℕ → ℕ → Bool
gone n us v = has v us && leb n (sums (is v) us)

-- a node, then its list of children, which visits nodes again. b is what stands at the end of the fuel: 0 for a count,
-- 1 (with weight 0) to count the ways of exactly d + 1 nodes
unfoldable pub walk : ℕ → (ℕ → List ℕ) → (ℕ → ℕ) → ℕ → ℕ → ℕ
walk b children w zero u = b
walk b children w (suc d) u = w u + sums (walk b children w d) (children u)

-- the weight of a unit, summed over the ways to it
abbrev pub total : (ℕ → List ℕ) → (ℕ → ℕ) → ℕ → ℕ → ℕ
total children w = walk 0 children w

abbrev pub totals : (ℕ → List ℕ) → (ℕ → ℕ) → ℕ → List ℕ → ℕ
totals children w d cs = sums (total children w d) cs

abbrev pub nothing : ℕ → ℕ
nothing v = 0

-- the number of ways of exactly d + 1 nodes down from u: 0 just when no way has more than d nodes
abbrev pub deep : (ℕ → List ℕ) → ℕ → ℕ → ℕ
deep children d u = walk 1 children nothing d u

-- every unit visited from u within d, once for each way to it
abbrev pub flat : (ℕ → List ℕ) → List ℕ → List ℕ
flat f [] = []
flat f (c ∷ cs) = f c ++ flat f cs

unfoldable pub visits : (ℕ → List ℕ) → ℕ → ℕ → List ℕ
visits children zero u = []
visits children (suc d) u = u ∷ flat (visits children d) (children u)

-- a path: the node it ends at, and the nodes above that, root first
abbrev pub follow : (ℕ → List ℕ) → List ℕ → ℕ → ℕ
follow children [] u = u
follow children (i ∷ p) u = follow children p (get_or (children u) i 0)

abbrev pub spine : (ℕ → List ℕ) → List ℕ → ℕ → List ℕ
spine children [] u = []
spine children (i ∷ p) u = u ∷ spine children p (get_or (children u) i 0)

-- the fuel at the root of a path whose target has fuel d
abbrev pub up : List ℕ → ℕ → ℕ
up [] d = d
up (i ∷ p) d = suc (up p d)

-- the first copy, or what stands for the target where the path is empty
abbrev pub top : List ℕ → ℕ → ℕ
top [] t = t
top (f ∷ fs) t = f

-- x is visited from u within d
abbrev pub Visited : (ℕ → List ℕ) → ℕ → ℕ → ℕ → Type 0
Visited children d u x = T (has x (visits children d u))

-- the copies `fs` of the path p from u, in the graph kids': each names the one below in place of the old child, the last names t
abbrev pub Copied : (ℕ → List ℕ) → (ℕ → List ℕ) → List ℕ → ℕ → List ℕ → ℕ → Type 0
Copied children children' [] u [] t = Unit {0}
Copied children children' [] u (f ∷ fs) t = ⊥
Copied children children' (i ∷ p) u [] t = ⊥
Copied children children' (i ∷ p) u (f ∷ fs) t =
    (i < length (children u)) × (children' f ≡ set (children u) i (top fs t)) × Copied children children' p (get_or (children u) i 0) fs t
