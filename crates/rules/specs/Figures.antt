-- Figures that sentences of document 01 give where no starred case looks, worked by hand: which line decides where two are
-- offended, what becomes of offsets, case 11, queries, and damaged images. Assumes nothing.
use Rattle.std.specs.Prelude.{ℕ, zero, suc, Bool, false, ◌&&◌, List, [], ◌∷◌, ◌++◌, eqb, replicate}
use Rattle.std.proofs.Math.Option.{none}
use Rattle.units.specs.Limits.{compactor_count}
use Rattle.rules.specs.Tables.{all, eqs, puts}
use Rattle.rules.specs.Store.{Node, Slot, empty, sealed, Store, empty_store}
use Rattle.rules.specs.Steps.{Outcome, accepted, refused, step_in}
use Rattle.rules.specs.Images.{image}
use Rattle.rules.specs.Loads.{load}
use Rattle.rules.specs.Query.{Owner, reserved, free, a_node, a_branch, a_slot, owner_numbers, query}
use Rattle.rules.specs.Voyage.{ok, no, port, sail, node_counts, branch_counts, shows, runs, zs, leaf_image, unit_image, image2, image10}

abbrev refusal : Outcome → ℕ
refusal (accepted s) = 0
refusal (refused n) = n

-- ---- stores to start from

abbrev node : List ℕ → List ℕ → List ℕ → Node
node bs cs os = record { buffers = bs; children = cs; offsets = os }

-- a root, nodes, branches of one unit each, what slot 0 holds
abbrev store : ℕ → List (ℕ × Node) → List ℕ → Slot → Store
store r ns bs x =
    record {
      root = r;
      nodes = puts (λ v. none) ns;
      branches = puts (λ v. none) (ones bs);
      slots = x ∷ empty ∷ empty ∷ empty ∷ [];
      inputs = replicate compactor_count [];
    }
  where
    ones : List ℕ → List (ℕ × List ℕ)
    ones [] = []
    ones (b ∷ bs) = (b, b ∷ []) ∷ ones bs

-- a step at the root: kind, path of depth 0, then the rest
abbrev at_root : ℕ → List ℕ → List ℕ
at_root kind rest = kind ∷ (zs 15 ++ rest)

-- ---- what becomes of offsets and children: a parent 1 with buffers 3, 4, 5, of which its four children 2 have 0, 1, 2, 3

abbrev family : Store
family = store 1 ((1, node (3 ∷ 4 ∷ 5 ∷ []) (2 ∷ 2 ∷ 2 ∷ 2 ∷ []) (0 ∷ 1 ∷ 2 ∷ 3 ∷ [])) ∷ (2, node [] [] []) ∷ []) (3 ∷ 4 ∷ 5 ∷ []) (sealed (6 ∷ []))

unfoldable pub offsets_move : Bool
offsets_move =
    -- commit of buffers 1 up to 3: up to start they stay, between they become start, from end they fall by one
    runs family
    (sail (8 ∷ 0 ∷ 0 ∷ (zs 7 ++ (1 ∷ 3 ∷ []))) (ok [])
    (sail (9 ∷ 0 ∷ 0 ∷ (zs 15 ++ (1 ∷ 3 ∷ 7 ∷ []))) (ok (1 ∷ 4 ∷ 5 ∷ []))
    (shows 7 (node (3 ∷ 6 ∷ []) (2 ∷ 2 ∷ 2 ∷ 2 ∷ []) (0 ∷ 1 ∷ 1 ∷ 2 ∷ [])) port)))
    -- flush of child 0: it gains all three; of child 1 with gc 1 refused, as child 0 has none yet
    && (runs family
    (sail (at_root 7 (1 ∷ 1 ∷ 7 ∷ 8 ∷ [])) (no 7)
    (sail (at_root 7 (0 ∷ 1 ∷ 7 ∷ 8 ∷ [])) (ok (1 ∷ []))
    (shows 7 (node (4 ∷ 5 ∷ []) (8 ∷ 2 ∷ 2 ∷ 2 ∷ []) (2 ∷ 0 ∷ 1 ∷ 2 ∷ []))
    (shows 8 (node (3 ∷ 4 ∷ 5 ∷ []) [] [])
    (node_counts ((2, 3) ∷ []) (branch_counts ((3, 1) ∷ (4, 2) ∷ (5, 2) ∷ []) port))))))
    -- split of an inner child by a share of 1, a level down: each half keeps its children's offsets
    && runs (store 10 ((10, node [] (1 ∷ []) (0 ∷ [])) ∷ (1, node (3 ∷ []) (2 ∷ 2 ∷ []) (0 ∷ 1 ∷ [])) ∷ (2, node [] [] []) ∷ []) (3 ∷ []) empty)
    (sail (at_root 6 (0 ∷ 2 ∷ 7 ∷ 8 ∷ 9 ∷ [])) (no 7)
    (sail (at_root 6 (0 ∷ 1 ∷ 7 ∷ 8 ∷ 9 ∷ [])) (ok (1 ∷ 10 ∷ []))
    (shows 7 (node [] (8 ∷ 9 ∷ []) (0 ∷ 0 ∷ []))
    (shows 8 (node (3 ∷ []) (2 ∷ []) (0 ∷ []))
    (shows 9 (node (3 ∷ []) (2 ∷ []) (1 ∷ [])) port))))))

-- ---- the first line that applies decides

-- a way of eight nodes, 11 to 18
abbrev tower : Store
tower =
    store 11 (level 11 12 ∷ level 12 13 ∷ level 13 14 ∷ level 14 15 ∷ level 15 16 ∷ level 16 17 ∷ level 17 18 ∷ (18, node [] [] []) ∷ []) [] empty
  where
    level : ℕ → ℕ → ℕ × Node
    level u c = (u, node [] (c ∷ []) (0 ∷ []))

-- a leaf with all places of its buffers in use
abbrev full : Store
full = store 1 ((1, node (replicate 8 3) [] []) ∷ []) (3 ∷ []) (sealed (6 ∷ []))

unfoldable pub lines_in_order : Bool
lines_in_order =
    eqb (refusal (step_in empty_store 254 [])) 1
    && eqb (refusal (step_in empty_store 255 [])) 2
    && eqb (refusal (step_in empty_store 255 (0 ∷ []))) 2
    && eqb (refusal (step_in empty_store 255 (11 ∷ 0 ∷ []))) 2
    && eqb (refusal (step_in empty_store 255 (3 ∷ 9 ∷ 9 ∷ []))) 3
    && runs empty_store
    (sail (3 ∷ 4 ∷ []) (no 4)
    (sail (3 ∷ 3 ∷ []) (no 5)
    (sail (1 ∷ 4 ∷ 0 ∷ []) (no 4)
    (sail (2 ∷ 0 ∷ 0 ∷ []) (no 5)
    (sail (at_root 6 (8 ∷ 0 ∷ 0 ∷ 0 ∷ 0 ∷ [])) (no 4)
    (sail (at_root 6 (0 ∷ 9 ∷ 0 ∷ 0 ∷ 0 ∷ [])) (no 6)
    (sail (7 ∷ 1 ∷ (zs 8 ++ (1 ∷ (zs 9)))) (no 4)
    (sail (10 ∷ 4 ∷ []) (no 4)
    (sail (10 ∷ 3 ∷ []) (no 5)
    (sail (1 ∷ 0 ∷ 0 ∷ []) (no 11) port))))))))))
    && runs family
    (sail (at_root 7 (4 ∷ 9 ∷ 0 ∷ 0 ∷ [])) (no 6)
    (sail (at_root 7 (0 ∷ 4 ∷ 0 ∷ 0 ∷ [])) (no 7)
    (sail (8 ∷ 0 ∷ 0 ∷ (zs 7 ++ (1 ∷ 3 ∷ []))) (ok [])
    (sail (9 ∷ 0 ∷ 0 ∷ (zs 15 ++ (2 ∷ 2 ∷ 0 ∷ []))) (no 7)
    (sail (9 ∷ 0 ∷ 0 ∷ (zs 15 ++ (0 ∷ 2 ∷ 0 ∷ []))) (no 8)
    (sail (9 ∷ 0 ∷ 0 ∷ (zs 15 ++ (1 ∷ 3 ∷ 0 ∷ []))) (no 11) port))))))
    && runs full (sail (4 ∷ 0 ∷ 0 ∷ []) (no 9) port)
    && runs tower (sail (5 ∷ 0 ∷ []) (no 10) port)

-- ---- case 11, and 11 before 12

abbrev eight : ℕ → List ℕ
eight n = replicate 8 n

abbrev chain : Store
chain =
    store 1 ((1, node sevens (eight 2) (eight 6)) ∷ link 2 3 ∷ link 3 4 ∷ link 4 5 ∷ link 5 6 ∷ (6, node (7 ∷ []) [] []) ∷ []) (7 ∷ []) empty
  where
    sevens : List ℕ
    sevens = replicate 7 7

    link : ℕ → ℕ → ℕ × Node
    link u c = (u, node sevens (eight c) (eight 0))

unfoldable pub chain_counts : Bool
chain_counts =
    runs chain
    (node_counts ((6, 32768) ∷ []) (branch_counts ((7, 65535) ∷ [])
    (sail (at_root 7 (0 ∷ 0 ∷ 0 ∷ 9 ∷ [])) (no 11)
    (sail (at_root 7 (0 ∷ 0 ∷ 8 ∷ 9 ∷ [])) (no 12)
    (sail (at_root 7 (0 ∷ 1 ∷ 8 ∷ 9 ∷ [])) (ok (1 ∷ []))
    (branch_counts ((7, 65535) ∷ []) port))))))

-- ---- queries

abbrev answers : Owner → Owner → Bool
answers a b = eqs (owner_numbers a) (owner_numbers b)

unfoldable pub queries_answer : Bool
queries_answer =
    answers (query family 0) reserved
    && answers (query family 9) free
    && answers (query family 2) (a_node 4)
    && answers (query family 4) (a_branch 4 1)
    && answers (query family 6) (a_slot 0)

-- ---- images: some that load, and for each number from 21 to 27 the ways of earning it

-- accepted, and written as it was read
abbrev loads : List ℕ → Bool
loads b = go (load b)
  where
    go : Outcome → Bool
    go (accepted s) = eqs (image s) b
    go (refused n) = false

abbrev turned_down : ℕ → List ℕ → Bool
turned_down n b = eqb (refusal (load b)) n

-- a node with all 8 children alike
abbrev link : ℕ → ℕ → List ℕ → List ℕ → List ℕ → List ℕ
link u n bs c more = 33 ∷ u ∷ (bs ++ (8 ∷ (eight n ++ (zs 8 ++ (c ++ more)))))

-- case 11: bs are the buffers of the five upper nodes
abbrev chain_image : List ℕ → List ℕ → List ℕ
chain_image bs more =
    32 ∷ 1 ∷ link 1 2 bs (1 ∷ 0 ∷ []) (link 2 3 bs (8 ∷ 0 ∷ []) (link 3 4 bs (64 ∷ 0 ∷ []) (link 4 5 bs (0 ∷ 2 ∷ []) (link 5 6 bs (0 ∷ 16 ∷ []) more))))

-- a chain of bare nodes from u on, k below it
abbrev levels : ℕ → ℕ → List ℕ
levels zero u = 33 ∷ u ∷ (zs 26 ++ (1 ∷ 0 ∷ []))
levels (suc k) u = 33 ∷ u ∷ (zs 9 ++ (1 ∷ suc u ∷ (zs 15 ++ (1 ∷ 0 ∷ levels k (suc u)))))

abbrev branch_of : ℕ → List ℕ → List ℕ
branch_of u count = 34 ∷ 1 ∷ u ∷ (zs 7 ++ count)

-- case 2's image, then a branch 6, 7 that only the input n holds, and slot 1 sealed with 8
abbrev busy : ℕ → List ℕ
busy n = image2 ++ (34 ∷ 2 ∷ 6 ∷ 7 ∷ (zs 6 ++ (0 ∷ 0 ∷ 35 ∷ 1 ∷ 2 ∷ 1 ∷ 8 ∷ (zs 7 ++ (36 ∷ 3 ∷ 1 ∷ n ∷ zs 7)))))

-- case 2's image with buffer number n, a second buffer z, child number k and first offset o
abbrev noded : ℕ → ℕ → ℕ → ℕ → List ℕ
noded n z k o = 32 ∷ 9 ∷ 33 ∷ 9 ∷ n ∷ 5 ∷ z ∷ (zs 6 ++ (k ∷ 0 ∷ (zs 7 ++ (o ∷ (zs 7 ++ (1 ∷ 0 ∷ unit_image 5 1))))))

-- slot k in state t with number n, whose last place holds z
abbrev slotted : ℕ → ℕ → ℕ → ℕ → List ℕ
slotted k t n z = 32 ∷ 0 ∷ 35 ∷ k ∷ t ∷ n ∷ 8 ∷ (zs 6 ++ (z ∷ []))

abbrev slots : List (List ℕ)
slots =
    slotted 4 1 1 0
    ∷ slotted 3 0 1 0
    ∷ slotted 3 3 1 0
    ∷ slotted 3 1 0 0
    ∷ slotted 3 1 9 0
    ∷ slotted 3 1 1 1
    ∷ (slotted 3 1 1 0 ++ (35 ∷ 3 ∷ 1 ∷ 1 ∷ 9 ∷ zs 7))
    ∷ []

abbrev layouts : List (List ℕ)
layouts =
    []
    ∷ (32 ∷ [])
    ∷ (31 ∷ 0 ∷ [])
    ∷ (32 ∷ 0 ∷ 32 ∷ 0 ∷ [])
    ∷ (32 ∷ 0 ∷ 34 ∷ 1 ∷ 5 ∷ [])
    ∷ (32 ∷ 9 ∷ (unit_image 5 1 ++ leaf_image 9 5 1 []))
    ∷ (image2 ++ (0 ∷ []))
    ∷ (32 ∷ 9 ∷ leaf_image 9 5 1 (unit_image 6 1 ++ unit_image 5 1))
    ∷ noded 9 0 0 0
    ∷ noded 1 0 9 0
    ∷ noded 0 0 0 0
    ∷ noded 1 0 0 1
    ∷ noded 1 0 1 2
    ∷ noded 1 7 0 0
    ∷ []

unfoldable pub images_judged : Bool
images_judged =
    all loads
    ((32 ∷ 0 ∷ []) ∷ image2 ∷ image10 ∷ busy 6 ∷ noded 1 0 0 0 ∷ slotted 3 1 1 0 ∷ slotted 0 2 1 0 ∷ (32 ∷ 1 ∷ levels 7 1)
    ∷ chain_image (zs 9) (33 ∷ 6 ∷ 1 ∷ 7 ∷ (zs 7 ++ (0 ∷ (zs 16 ++ (0 ∷ 128 ∷ branch_of 7 (0 ∷ 128 ∷ []))))))
    ∷ chain_image (7 ∷ (replicate 7 7 ++ (0 ∷ []))) (33 ∷ 6 ∷ 1 ∷ 7 ∷ (zs 7 ++ (0 ∷ (zs 16 ++ (0 ∷ 128 ∷ branch_of 7 (255 ∷ 255 ∷ []))))))
    ∷ [])
    && all (turned_down 21) slots
    && all (turned_down 21) layouts
    && all (turned_down 22)
    (slotted 3 1 2 0 ∷ (image2 ++ unit_image 9 1) ∷ (32 ∷ 0 ∷ leaf_image 0 5 1 (unit_image 5 1)) ∷ [])
    && all (turned_down 23)
    (noded 1 0 1 1 ∷ (32 ∷ 8 ∷ leaf_image 9 5 1 (unit_image 5 1)) ∷ (32 ∷ 9 ∷ leaf_image 9 0 1 (unit_image 5 1))
    ∷ (32 ∷ 0 ∷ leaf_image 9 6 1 (unit_image 5 1)) ∷ busy 7 ∷ [])
    && turned_down 24 (32 ∷ 1 ∷ levels 8 1)
    && turned_down 24 (32 ∷ 9 ∷ link 9 9 (zs 9) (1 ∷ 0 ∷ []) [])
    && turned_down 25 (chain_image (zs 9) (33 ∷ 6 ∷ 2 ∷ 7 ∷ 7 ∷ (zs 6 ++ (0 ∷ (zs 16 ++ (0 ∷ 128 ∷ branch_of 7 (0 ∷ 0 ∷ [])))))))
    && turned_down 26 (32 ∷ 0 ∷ link 9 9 (zs 9) (1 ∷ 0 ∷ []) [])
    && turned_down 26 (image2 ++ unit_image 6 0)
    && turned_down 27 (32 ∷ 9 ∷ leaf_image 9 5 1 (unit_image 5 2))
    && turned_down 27 (32 ∷ 9 ∷ leaf_image 9 5 2 (unit_image 5 1))
