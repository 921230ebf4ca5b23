-- "Images": the bytes that the writer writes for a store, its counts recounted.
-- Assumes nothing.
use Rattle.std.specs.Prelude.{ℕ, suc, ◌-◌, ◌/◌, ◌%◌, List, [], ◌∷◌, ◌++◌, length, replicate}
use Rattle.std.proofs.Math.Option.{Option, none, some}
use Rattle.units.specs.Limits.{room}
use Rattle.ways.specs.Ways.{flat}
use Rattle.rules.specs.Store.{Node, Slot, empty, opened, sealed, Store, units, ways, places}

-- a list in its places, unused ones 0
abbrev pub padded : List ℕ → List ℕ
padded l = l ++ replicate (room - length l) 0

-- a count: "two bytes, low first"
abbrev pub low_first : ℕ → List ℕ
low_first n = (n % 256) ∷ (n / 256) ∷ []

-- 33: unit, buffer number, buffers, child number, children, offsets, count
abbrev pub node_image : (ℕ → ℕ) → ℕ → Option Node → List ℕ
node_image count u none = []
node_image count u (some n) =
    33 ∷ u ∷ length n.buffers
    ∷ (padded n.buffers ++ (length n.children ∷ (padded n.children ++ (padded n.offsets ++ low_first (count u)))))

-- 34: number, units, count
abbrev pub branch_image : (ℕ → ℕ) → ℕ → Option (List ℕ) → List ℕ
branch_image count b none = []
branch_image count b (some us) = 34 ∷ length us ∷ (padded us ++ low_first (count b))

-- 35: slot, 1 open or 2 sealed, number, units
abbrev pub slot_image : ℕ → Slot → List ℕ
slot_image k empty = []
slot_image k (opened us) = 35 ∷ k ∷ 1 ∷ length us ∷ padded us
slot_image k (sealed us) = 35 ∷ k ∷ 2 ∷ length us ∷ padded us

abbrev pub slot_images : ℕ → List Slot → List ℕ
slot_images k [] = []
slot_images k (x ∷ xs) = slot_image k x ++ slot_images (suc k) xs

-- 36: slot, number, roots
abbrev pub input_images : ℕ → List (List ℕ) → List ℕ
input_images k [] = []
input_images k ([] ∷ ls) = input_images (suc k) ls
input_images k ((x ∷ xs) ∷ ls) = 36 ∷ k ∷ length (x ∷ xs) ∷ (padded (x ∷ xs) ++ input_images (suc k) ls)

-- 32 with the root, then each kind in its order
unfoldable pub image : Store → List ℕ
image s =
    32 ∷ s.root
    ∷ (flat (λ u. node_image (ways s) u (s.nodes u)) units
    ++ (flat (λ b. branch_image (places s) b (s.branches b)) units
    ++ (slot_images 0 s.slots ++ input_images 0 s.inputs)))
