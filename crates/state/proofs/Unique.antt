-- A store's bytes are determined by the store, and a right store by its bytes. Assumes nothing.
use mathlib.Core.Path.{◌≡◌, refl, sym, ap, ap₂, ◌∙◌, subst, fun_ext}
use mathlib.Core.Bool.{Bool, true, false, true≢false}
use mathlib.Core.List.{List, []}
use mathlib.Core.Option.{Option, none, some}
use Prim.Native.Nat.{ℕ, ◌-◌, ◌≤◌, ◌<◌}
use native.Mathlib.Omega.{arith}
use lib.Dec.{T, leb, ltb, leb→le}
use lib.ListN.{length, get_or}
use lib.Seq.{ext_get_or}
use borrow.Author.Tests.{leb-true, leb-false}
use Rattle.units.specs.Limits.{last_unit, room}
use Rattle.rules.specs.Tables.{slice, is_some, or_else}
use Rattle.rules.specs.Store.{Node, Slot, empty, opened, sealed, Store, blank, node_at, slot_units, ways}
use Rattle.rules.specs.Right.{NodeOk, slot_ok, Sound, Right}
use Rattle.ways.proofs.Tests.{and_r}
use Rattle.right.proofs.Lists.{all_get}
use Rattle.right.proofs.Held.{reached_node}
use Rattle.records.specs.Rows.{eight, eight_whole}
use Rattle.counting.specs.Nodes.{coded, root_read}
use Rattle.path.proofs.Trees.{tree_ext}
use Rattle.path.proofs.Paths.{node_in_lem}
use Rattle.tables.specs.Hold.{coded_branch, coded_slot, coded_input, slot_state}
use Rattle.tables.proofs.Kept.{branch_read_lem, slot_read_lem, input_read_lem, hold_ext}
use Rattle.state.specs.Stands.{Arrays, Stands}
use Rattle.state.proofs.Counts.{counts_ext}
use Rattle.state.proofs.Maps.{map_is_ext}

-- ---- the bytes are determined

pub stands_ext : (s : Store) (a a' : Arrays) → Stands s a → Stands s a' → a ≡ a'
stands_ext s a a' st st' =
    let t : a.tree ≡ a'.tree = tree_ext st.tree st'.tree in
    let c : a.counts ≡ a'.counts = counts_ext _ _ a.counts a'.counts st.counts st'.counts in
    let h : a.hold ≡ a'.hold = hold_ext st.hold st'.hold in
    let m : a.map ≡ a'.map = map_is_ext _ a.map a'.map st.map st'.map in
    λ i. record { tree = t i; counts = c i; hold = h i; map = m i }

-- ---- the store is determined

-- a list of at most eight by its length and its places
list_eq : (l l' : List ℕ) → length l ≤ room → length l' ≤ room → length l ≡ length l' → eight l ≡ eight l' → l ≡ l'
list_eq l l' h h' e p = sym (eight_whole l h) ∙ ap₂ (λ (n : ℕ) (x : List ℕ). slice 0 (n - 0) x) e p ∙ eight_whole l' h'

module _ (s s' : Store) (r : Right s) (r' : Right s') (a : Arrays) (st : Stands s a) (st' : Stands s' a) where
  same_ways : (u : ℕ) → u ≤ last_unit → ways s u ≡ ways s' u
  same_ways u h = sym (st.counts.way u h) ∙ st'.counts.way u h

  node_eq : (u : ℕ) (n n' : Node) → s.nodes u ≡ some n → s'.nodes u ≡ some n' → n ≡ n'
  node_eq u n n' e e' =
      let i : T (is_some (s.nodes u)) = subst (λ (o : Option Node). T (is_some o)) (sym e) tt in
      let i' : T (is_some (s'.nodes u)) = subst (λ (o : Option Node). T (is_some o)) (sym e') tt in
      let q : coded (node_at s u) ≡ coded (node_at s' u) = sym (node_in_lem s a.tree st.tree r.sound u i) ∙ node_in_lem s' a.tree st'.tree r'.sound u i' in
      let p : coded n ≡ coded n' = sym (ap (λ (o : Option Node). coded (or_else blank o)) e) ∙ q ∙ ap (λ (o : Option Node). coded (or_else blank o)) e' in
      let o : NodeOk s n = r.sound.node u n e in
      let o' : NodeOk s' n' = r'.sound.node u n' e' in
      let b : n.buffers ≡ n'.buffers = list_eq n.buffers n'.buffers o.few_buffers o'.few_buffers (ap (λ x. x.buffer_number) p) (ap (λ x. x.buffers) p) in
      let cn : length n.children ≡ length n'.children = ap (λ x. x.child_number) p in
      let c : n.children ≡ n'.children = list_eq n.children n'.children o.few_children o'.few_children cn (ap (λ x. x.children) p) in
      let f : n.offsets ≡ n'.offsets =
      list_eq n.offsets n'.offsets (omega (arith, o.paired, o.few_children)) (omega (arith, o'.paired, o'.few_children)) (o.paired ∙ cn ∙ sym o'.paired) (ap (λ x. x.offsets) p) in
      λ i. record { buffers = b i; children = c i; offsets = f i }

  same_node : (u : ℕ) → s.nodes u ≡ s'.nodes u
  same_node u = go (s.nodes u) (s'.nodes u) refl refl (leb u last_unit) refl
    where
      both : u ≤ last_unit → is_some (s.nodes u) ≡ is_some (s'.nodes u)
      both h = sym (reached_node s r u) ∙ ap (ltb 0) (same_ways u h) ∙ reached_node s' r' u

      far : (t : Store) → Sound t → last_unit < u → T (is_some (t.nodes u)) → ⊥
      far t o h q = omega (arith, (o.node_unit u q).1)

      go : (o o' : Option Node) → s.nodes u ≡ o → s'.nodes u ≡ o' → (b : Bool) → leb u last_unit ≡ b → s.nodes u ≡ s'.nodes u
      go none none e e' b q = e ∙ sym e'
      go (some n) (some n') e e' b q = e ∙ ap some (node_eq u n n' e e') ∙ sym e'
      go none (some n') e e' true q = absurd (true≢false (sym (sym (ap is_some e) ∙ both (leb-true u last_unit q) ∙ ap is_some e')))
      go (some n) none e e' true q = absurd (true≢false (sym (ap is_some e) ∙ both (leb-true u last_unit q) ∙ ap is_some e'))
      go none (some n') e e' false q = absurd (far s' r'.sound (leb-false u last_unit q) (subst (λ (o : Option Node). T (is_some o)) (sym e') tt))
      go (some n) none e e' false q = absurd (far s r.sound (leb-false u last_unit q) (subst (λ (o : Option Node). T (is_some o)) (sym e) tt))

  same_branch : (b : ℕ) → s.branches b ≡ s'.branches b
  same_branch b = go (s.branches b) (s'.branches b) refl refl (leb b last_unit) refl
    where
      row : b ≤ last_unit → coded_branch (or_else [] (s.branches b)) ≡ coded_branch (or_else [] (s'.branches b))
      row h = sym (branch_read_lem st.hold b h) ∙ branch_read_lem st'.hold b h

      number : b ≤ last_unit → length (or_else [] (s.branches b)) ≡ length (or_else [] (s'.branches b))
      number h = ap (λ x. x.number) (row h)

      far : (t : Store) → Sound t → last_unit < b → T (is_some (t.branches b)) → ⊥
      far t o h q = omega (arith, (o.branch_unit b q).1)

      go : (o o' : Option (List ℕ)) → s.branches b ≡ o → s'.branches b ≡ o' → (c : Bool) → leb b last_unit ≡ c → s.branches b ≡ s'.branches b
      go none none e e' c q = e ∙ sym e'
      go (some us) (some us') e e' c q =
          let i = r.sound.branch_unit b (subst (λ (o : Option (List ℕ)). T (is_some o)) (sym e) tt) in
          let p : coded_branch us ≡ coded_branch us' =
          sym (ap (λ (o : Option (List ℕ)). coded_branch (or_else [] o)) e) ∙ row i.1 ∙ ap (λ (o : Option (List ℕ)). coded_branch (or_else [] o)) e' in
          e ∙ ap some (list_eq us us' (r.sound.branch b us e).most (r'.sound.branch b us' e').most (ap (λ x. x.number) p) (ap (λ x. x.units) p)) ∙ sym e'
      go none (some us') e e' true q =
          absurd (omega (arith, number (leb-true b last_unit q), ap (λ (o : Option (List ℕ)). length (or_else [] o)) e, ap (λ (o : Option (List ℕ)). length (or_else [] o)) e', (r'.sound.branch b us' e').least))
      go (some us) none e e' true q =
          absurd (omega (arith, number (leb-true b last_unit q), ap (λ (o : Option (List ℕ)). length (or_else [] o)) e, ap (λ (o : Option (List ℕ)). length (or_else [] o)) e', (r.sound.branch b us e).least))
      go none (some us') e e' false q = absurd (far s' r'.sound (leb-false b last_unit q) (subst (λ (o : Option (List ℕ)). T (is_some o)) (sym e') tt))
      go (some us) none e e' false q = absurd (far s r.sound (leb-false b last_unit q) (subst (λ (o : Option (List ℕ)). T (is_some o)) (sym e) tt))

  slot_eq : (x x' : Slot) → T (slot_ok x) → T (slot_ok x') → coded_slot x ≡ coded_slot x' → x ≡ x'
  slot_eq x x' o o' p = back x x' (ap (λ y. y.state) p) (list_eq (slot_units x) (slot_units x') (few x o) (few x' o') (ap (λ y. y.number) p) (ap (λ y. y.units) p))
    where
      few : (y : Slot) → T (slot_ok y) → length (slot_units y) ≤ room
      few empty t = omega arith
      few (opened us) t = leb→le (length us) room (and_r (leb 1 (length us)) (leb (length us) room) t)
      few (sealed us) t = leb→le (length us) room (and_r (leb 1 (length us)) (leb (length us) room) t)

      back : (y z : Slot) → slot_state y ≡ slot_state z → slot_units y ≡ slot_units z → y ≡ z
      back empty empty e q = refl
      back empty (opened us) e q = absurd (omega arith)
      back empty (sealed us) e q = absurd (omega arith)
      back (opened us) empty e q = absurd (omega arith)
      back (opened us) (opened vs) e q = ap opened q
      back (opened us) (sealed vs) e q = absurd (omega arith)
      back (sealed us) empty e q = absurd (omega arith)
      back (sealed us) (opened vs) e q = absurd (omega arith)
      back (sealed us) (sealed vs) e q = ap sealed q

  same_slots : s.slots ≡ s'.slots
  same_slots =
      ext_get_or empty s.slots s'.slots (r.sound.slot_number ∙ sym r'.sound.slot_number)
      (λ k h. slot_eq (get_or s.slots k empty) (get_or s'.slots k empty)
      (all_get slot_ok k empty s.slots tt r.sound.slot) (all_get slot_ok k empty s'.slots tt r'.sound.slot)
      (sym (slot_read_lem st.hold k (omega (arith, r.sound.slot_number))) ∙ slot_read_lem st'.hold k (omega (arith, r.sound.slot_number))))

  same_inputs : s.inputs ≡ s'.inputs
  same_inputs =
      ext_get_or [] s.inputs s'.inputs (r.sound.input_number ∙ sym r'.sound.input_number)
      (λ k h.
      let p : coded_input (get_or s.inputs k []) ≡ coded_input (get_or s'.inputs k []) =
      sym (input_read_lem st.hold k (omega (arith, r.sound.input_number))) ∙ input_read_lem st'.hold k (omega (arith, r.sound.input_number)) in
      list_eq (get_or s.inputs k []) (get_or s'.inputs k [])
      (leb→le (length (get_or s.inputs k [])) room (all_get (λ l. leb (length l) room) k [] s.inputs tt r.sound.input))
      (leb→le (length (get_or s'.inputs k [])) room (all_get (λ l. leb (length l) room) k [] s'.inputs tt r'.sound.input))
      (ap (λ x. x.number) p) (ap (λ x. x.roots) p))

  pub one_store_stands : s ≡ s'
  one_store_stands =
      let er : s.root ≡ s'.root = sym (root_read a.tree s.root st.tree.root_row) ∙ root_read a.tree s'.root st'.tree.root_row in
      let en : s.nodes ≡ s'.nodes = fun_ext same_node in
      let eb : s.branches ≡ s'.branches = fun_ext same_branch in
      λ i. record { root = er i; nodes = en i; branches = eb i; slots = same_slots i; inputs = same_inputs i }
