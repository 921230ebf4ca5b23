-- An accepted step that copies a path, for every kind of it: what the tree, the counts of ways and the map are once the copies and new
-- nodes have come and the old ones have lost a way each. Assumes nothing.
use mathlib.Core.Bool.{Bool, true, false, ◌||◌, ◌&&◌, not, cond}
use mathlib.Core.Path.{◌≡◌, refl, sym, ap, ap₂, ◌∙◌, subst}
use mathlib.Core.List.{List, [], ◌∷◌, ◌++◌}
use Prim.Native.Nat.{ℕ, suc, ◌≤◌}
use native.Mathlib.Omega.{arith}
use lib.Dec.{T, eqb, eqb_refl}
use lib.ListN.{length, get_or, take}
use Rattle.units.specs.Limits.{last_unit, room}
use Rattle.units.specs.Bodies.{indexes}
use Rattle.ways.specs.Ways.{has, gone, follow, spine, top, is}
use Rattle.ways.proofs.Tests.{and_l, and_r, and_i, or_l, or_r, not→eq, eq→not, F→eq}
use Rattle.ways.proofs.Members.{has_left, has_right}
use Rattle.ways.proofs.Frame.{sums_append}
use Rattle.rules.specs.Tables.{times, keys, puts, distinct}
use Rattle.rules.specs.Store.{Node, Store, children_of, ways, places, held}
use Rattle.rules.specs.Steps.{accepted, decide, copies, leads, Step, change}
use Rattle.rules.specs.Right.{Right}
use Rattle.right.proofs.Steps.{Even, passed, apart}
use Rattle.right.proofs.Tables.{keys_append}
use Rattle.right.proofs.Ledger.{keys_copies, root_named}
use Rattle.right.proofs.Ledgers.{AtNode, at_node}
use Rattle.right.proofs.After.{after_root, key_unit, drop_unit}
use Rattle.records.specs.Rows.{eight}
use Rattle.counting.specs.Nodes.{coded, put_node, root_read}
use Rattle.counting.specs.Change.{add_trees, add_counts}
use Rattle.counting.proofs.Counts.{Low}
use Rattle.held_map.specs.Map.{mark}
use Rattle.path.specs.Graph.{top_of, copied_tree}
use Rattle.path.specs.Standing.{TreeIs}
use Rattle.path.proofs.Trees.{tree_root}
use Rattle.path.proofs.Paths.{copied_is, copied_counts, spine_is, top_of_lem}
use Rattle.path.proofs.Accepted.{tree_ends, counts_ends}
use Rattle.state.specs.Standing.{CountsAre, MapIs, marks}
use Rattle.state.specs.Stands.{Arrays, Stands}
use Rattle.state.proofs.Counts.{counts_adds}
use Rattle.state.proofs.Maps.{map_same, map_holds}
use Rattle.state.proofs.Changes.{Same, tree_after, ways_after}
use Rattle.allocation.proofs.Going.{eight_times, eight_has, eight_low, let_go_map_lem}
use Rattle.pathed.specs.Pathed.{spine_in, copy_tree, put_nodes, come_counts, going, going_in, pathed_tree, pathed_counts, pathed_map}
use Rattle.pathed.proofs.PathEnd.{target_unit_lem}

-- ---- lists

-- nodes of the rules as code has them
abbrev pub coded_all : List (ℕ × Node) → List (ℕ × Rattle.counting.specs.declared.Node.Node)
coded_all [] = []
coded_all (e ∷ es) = (e.0, coded e.1) ∷ coded_all es

coded_keys : (es : List (ℕ × Node)) → keys (coded_all es) ≡ keys es
coded_keys [] = refl
coded_keys (e ∷ es) = ap (λ (l : List ℕ). e.0 ∷ l) (coded_keys es)

put_coded : (es : List (ℕ × Node)) (tree : List ℕ) → put_nodes tree (coded_all es) ≡ add_trees tree es
put_coded [] tree = refl
put_coded (e ∷ es) tree = put_coded es (put_node tree e.0 (coded e.1))

marks_append : (us vs map : List ℕ) → marks map (us ++ vs) ≡ marks (marks map us) vs
marks_append [] vs map = refl
marks_append (u ∷ us) vs map = marks_append us vs (mark map u)

low_of : (l : List ℕ) → ((x : ℕ) → T (has x l) → x ≤ last_unit) → Low l
low_of [] h = tt
low_of (x ∷ l) h = (h x (or_l (eqb x x) (has x l) (eqb_refl x)), low_of l (λ y t. h y (or_r (eqb x y) (has y l) t)))

pub low_append : (us vs : List ℕ) → Low us → Low vs → Low (us ++ vs)
low_append [] vs a b = b
low_append (u ∷ us) vs a b = (a.0, low_append us vs a.1 b)

distinct_left : (us vs : List ℕ) → T (distinct (us ++ vs)) → T (distinct us)
distinct_left [] vs t = tt
distinct_left (u ∷ us) vs t =
    let a : T (not (has u (us ++ vs))) = and_l (not (has u (us ++ vs))) (distinct (us ++ vs)) t in
    and_i (not (has u us)) (distinct us)
    (subst (λ (b : Bool). T (not b)) (sym (F→eq (has u us) (λ h. eq→not (has u (us ++ vs)) (not→eq (has u (us ++ vs)) a) (has_left u us vs h)))) tt)
    (distinct_left us vs (and_r (not (has u (us ++ vs))) (distinct (us ++ vs)) t))

has_append_is : (v : ℕ) (us vs : List ℕ) → has v (us ++ vs) ≡ (has v us || has v vs)
has_append_is v [] vs = refl
has_append_is v (u ∷ us) vs = ap (λ (b : Bool). eqb u v || b) (has_append_is v us vs) ∙ assoc (eqb u v) (has v us) (has v vs)
  where
    assoc : (x y z : Bool) → (x || (y || z)) ≡ ((x || y) || z)
    assoc true y z = refl
    assoc false y z = refl

spine_length : (k : ℕ → List ℕ) (p : List ℕ) (u : ℕ) → length (spine k p u) ≡ length p
spine_length k [] u = refl
spine_length k (i ∷ p) u = ap suc (spine_length k p (get_or (k u) i 0))

-- ---- the law

-- what stands once the step has been carried out: p and q the used indexes and fresh units, f stands for the target, es come and h goes besides
pub record Came (s s' : Store) (a : Arrays) (m : Step) (f : ℕ) (es : List (ℕ × Node)) (p q : List ℕ) (h : ℕ) : Type 0 where
  pub tree : TreeIs s'.root s'.nodes (pathed_tree a.tree a.counts p q f (coded_all es) h)
  pub counts : CountsAre (ways s') (places s) (pathed_counts a.tree a.counts p q (keys es) h)
  pub gone_same : Same (going_in a.tree p h) (change s m).drops
  pub map : MapIs (λ v. (has v (keys (change s m).adds) || held s v) && not (gone (cond (has v (keys (change s m).adds)) 1 (ways s v)) (going_in a.tree p h) v))
      (pathed_map a.tree a.counts a.map p q (keys es) h)

module _ (s : Store) (r : Right s) (m : Step) (ev : Even m) (s' : Store) (e : decide s (change s m) ≡ accepted s') (a : Arrays) (st : Stands s a)
    (p q : List ℕ) (f : ℕ) (es : List (ℕ × Node)) (h : ℕ) (hs : List ℕ)
    (way : T (leads s p)) (even : length q ≡ length p)
    (adds-are : (change s m).adds ≡ copies s p q s.root f ++ es)
    (drops-are : (change s m).drops ≡ spine (children_of s) p s.root ++ (follow (children_of s) p s.root ∷ hs))
    (root_is : (change s m).root ≡ top q f)
    (child_low : h ≤ last_unit) (child-has : (v : ℕ) → 1 ≤ v → has v (h ∷ []) ≡ has v hs) (child-times : (v : ℕ) → 1 ≤ v → times v (h ∷ []) ≡ times v hs) where
  abbrev tree : List ℕ
  tree = a.tree

  abbrev counts : List ℕ
  counts = a.counts

  abbrev goal : ℕ
  goal = follow (children_of s) p s.root

  abbrev walked : List ℕ
  walked = spine (children_of s) p s.root

  at : AtNode s p
  at = at_node s p r.sound way

  root_at : get_or tree 0 0 ≡ s.root
  root_at = root_read tree s.root st.tree.root_row

  keys_are : keys (change s m).adds ≡ q ++ keys es
  keys_are = ap (λ (l : List (ℕ × Node)). keys l) adds-are ∙ keys_append (copies s p q s.root f) es ∙ ap (λ (l : List ℕ). l ++ keys es) (keys_copies s p q s.root f even)

  keys_low : Low (q ++ keys es)
  keys_low = low_of (q ++ keys es) (λ x t. (key_unit s r m ev s' e x (subst (λ (l : List ℕ). T (has x l)) (sym keys_are) t)).1)

  apart_q : T (distinct q)
  apart_q = distinct_left q (keys es) (subst (λ (l : List ℕ). T (distinct l)) keys_are (apart s r.sound m ev (passed s r (change s m) s' e).0))

  -- ---- nodes that come

  tree_come : TreeIs s.root (puts s.nodes (change s m).adds) (put_nodes (copy_tree tree p q f) (coded_all es))
  unfolding copy_tree
  tree_come =
      rw (put_coded es (copied_tree tree p q (get_or tree 0 0) f), root_at, adds-are)
      (tree_ends s.nodes (copies s p q s.root f) (copied_is s tree st.tree r.sound p q s.root f (root_named s r.sound at.full) at.way even apart_q) es)

  counts_come : CountsAre (λ v. cond (has v (keys (change s m).adds)) 1 (ways s v)) (places s) (come_counts counts p q (keys es))
  counts_come =
      subst (λ (l : List ℕ). CountsAre (λ v. cond (has v (keys (change s m).adds)) 1 (ways s v)) (places s) l)
      (counts_ends q (keys es) counts ∙ ap (λ (l : List ℕ). add_counts l (keys es)) (sym (copied_counts counts p q even)))
      (subst (λ (l : List ℕ). CountsAre (λ v. cond (has v l) 1 (ways s v)) (places s) (add_counts counts (q ++ keys es))) (sym keys_are)
      (counts_adds (ways s) (places s) counts st.counts (q ++ keys es) keys_low))

  map_come : MapIs (λ v. has v (keys (change s m).adds) || held s v) (marks (marks a.map q) (keys es))
  map_come =
      subst (λ (l : List ℕ). MapIs (λ v. has v (keys (change s m).adds) || held s v) l) (marks_append q (keys es) a.map)
      (subst (λ (l : List ℕ). MapIs (λ v. has v l || held s v) (marks a.map (q ++ keys es))) (sym keys_are) (map_holds (q ++ keys es) (held s) a.map keys_low st.map))

  -- ---- ways that go

  few_walked : length walked ≤ room
  few_walked = omega (arith, spine_length (children_of s) p s.root, at.near)

  going_is : going_in tree p h ≡ going (eight walked) goal h
  unfolding spine_in
  going_is =
      ap₂ (λ (l : List ℕ) (t : ℕ). going l t h)
      (ap (λ (u : ℕ). eight (spine (Rattle.path.specs.Graph.eight_in tree) (take indexes p) u)) root_at
      ∙ spine_is s tree st.tree r.sound p s.root (root_named s r.sound at.full) at.way (omega (arith, at.near)))
      (target_unit_lem s r.sound tree st.tree p way)

  dropped_low : (x : ℕ) → T (has x (walked ++ (goal ∷ hs))) → x ≤ last_unit
  dropped_low x t = (drop_unit s r m ev s' e x (subst (λ (l : List ℕ). T (has x l)) (sym drops-are) t)).1

  pub going_same : Same (going_in tree p h) (change s m).drops
  going_same =
      subst (λ (l : List ℕ). Same l (change s m).drops) (sym going_is)
      (subst (λ (l : List ℕ). Same (going (eight walked) goal h) l) (sym drops-are)
      (record {
        low = low_append (eight walked) (goal ∷ h ∷ []) (eight_low walked (low_of walked (λ x t. dropped_low x (has_left x walked (goal ∷ hs) t))))
            (dropped_low goal (has_right goal walked (goal ∷ hs) (or_l (eqb goal goal) (has goal hs) (eqb_refl goal))), (child_low, tt));
        in_list = λ v o.
            has_append_is v (eight walked) (goal ∷ h ∷ [])
            ∙ ap₂ (λ (x y : Bool). x || (eqb goal v || y)) (eight_has v o walked few_walked) (child-has v o)
            ∙ sym (has_append_is v walked (goal ∷ hs));
        places_in_lem = λ v o.
            omega (
              arith,
              sums_append (is v) (eight walked) (goal ∷ h ∷ []),
              sums_append (is v) walked (goal ∷ hs),
              eight_times v o walked few_walked,
              child-times v o,
            );
      }))

  -- ---- the whole

  pub pathed_tree_lem : TreeIs s'.root s'.nodes (pathed_tree tree counts p q f (coded_all es) h)
  unfolding pathed_tree
  pathed_tree_lem =
      rw (coded_keys es, after_root s r (change s m) s' e ∙ root_is ∙ sym (top_of_lem p q f even))
      (tree_root (tree_after s r m ev s' e (put_nodes (copy_tree tree p q f) (coded_all es)) (come_counts counts p q (keys es)) (going_in tree p h) counts_come going_same tree_come) (top_of p q f))

  pub pathed_counts_lem : CountsAre (ways s') (places s) (pathed_counts tree counts p q (keys es) h)
  unfolding pathed_counts
  pathed_counts_lem = ways_after s r m ev s' e (put_nodes (copy_tree tree p q f) (coded_all es)) (come_counts counts p q (keys es)) (going_in tree p h) counts_come going_same

  pub pathed_map_lem : MapIs (λ v. (has v (keys (change s m).adds) || held s v) && not (gone (cond (has v (keys (change s m).adds)) 1 (ways s v)) (going_in tree p h) v))
      (pathed_map tree counts a.map p q (keys es) h)
  unfolding pathed_map
  pathed_map_lem =
      map_same (λ v. (has v (keys (change s m).adds) || held s v) && not (gone (get_or (come_counts counts p q (keys es)) v 0) (going_in tree p h) v)) _ _
      (λ v o. ap (λ (n : ℕ). (has v (keys (change s m).adds) || held s v) && not (gone n (going_in tree p h) v)) (counts_come.way v o))
      (let_go_map_lem (going_in tree p h) (λ v. has v (keys (change s m).adds) || held s v) (marks (marks a.map q) (keys es)) (come_counts counts p q (keys es)) going_same.low counts_come.long map_come)

  pub came : Came s s' a m f es p q h
  came = record { tree = pathed_tree_lem; counts = pathed_counts_lem; gone_same = going_same; map = pathed_map_lem }
