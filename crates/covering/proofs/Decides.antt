-- The search finds a map exactly where there is one: `covers` decides covering. Assumes nothing.
use mathlib.Core.Path.{◌≡◌, refl, sym, ◌∙◌, ap, ap₂, subst}
use mathlib.Core.Bool.{Bool, true, false, cond, not}
use mathlib.Core.Logic.{◌⊎◌, inl, inr, ◌↔◌}
use mathlib.Core.List.Memᴰ
use mathlib.Core.List.{List, [], ◌∷◌, map, nil≢cons, cons≢nil, head-eq_of_cons-eq, tail-eq_of_cons-eq}
use mathlib.Core.Option.{Option, none, some, some-injective, get_or}
use Prim.Native.Nat.{ℕ}
use lib.Dec.{T, eqb, eqb→eq, eqb_refl}
use Rattle.covering.specs.Lists.{◌∈◌, is_some, bind, first_of}
use Rattle.covering.specs.Term.{Term, var, con, Atom, Question, Sub, on_term, on_atom, eq_term}
use Rattle.covering.specs.Covers.{Sends, Covers}
use Rattle.covering.specs.Search.{Part, nowhere, also, agree, place_term, place_terms, place_atom, find_map}
use Rattle.covering.specs.Search.{first_map, covers}
use Rattle.covering.proofs.Lists.{first_of_out, first_of_in, some_of, some_is}
use Rattle.covering.proofs.Tests.{decide, cond_yes, cond_no, none≢some}
use Rattle.covering.proofs.Terms.{eq_term→eq, eq→eq_term, atom_path}

-- s does what the map so far says
abbrev pub Respects : Sub → Part → Type 0
Respects s p = (n : ℕ) (t : Term) → p n ≡ some t → s n ≡ t

-- if a step yields q, then whatever does what q says does what p says, and has X
abbrev pub Tells : Part → Option Part → (Sub → Type 0) → Type 0
Tells p o X = (q : Part) → o ≡ some q → (s : Sub) → Respects s q → Respects s p × X s

-- a step yields a map, and s does what it says
pub record Yields (s : Sub) (o : Option Part) : Type 0 where
  pub part : Part
  pub found : o ≡ some part
  pub respects : Respects s part

if_tells : (p : Part) (b : Bool) (X : Sub → Type 0) → (T b → (s : Sub) → Respects s p → X s)
    → Tells p (cond b (some p) none) X
if_tells p true X h q e s k =
    let k' : Respects s p = subst (Respects s) (sym (some-injective p q e)) k in
    (k', h tt s k')
if_tells p false X h q e s k = absurd (none≢some e)

if_yields : (s : Sub) (p : Part) (b : Bool) → T b → Respects s p → Yields s (cond b (some p) none)
if_yields s p true t k = record { part = p; found = refl; respects = k }
if_yields s p false t k = absurd t

-- a variable that went nowhere yet
new_tells : (p : Part) (n : ℕ) (u : Term) → p n ≡ none → Tells p (some (also p n u)) (λ s. s n ≡ u)
new_tells p n u e q f s k =
    ((λ m t h. old m t h (decide (eqb n m))), k' n u (cond_yes (eqb n n) (some u) (p n) (eqb_refl n)))
  where
    k' : Respects s (also p n u)
    k' = subst (Respects s) (sym (some-injective (also p n u) q f)) k

    old : (m : ℕ) (t : Term) → p m ≡ some t → T (eqb n m) ⊎ T (not (eqb n m)) → s m ≡ t
    old m t h (inl x) = absurd (none≢some (sym e ∙ ap p (eqb→eq n m x) ∙ h))
    old m t h (inr x) = k' m t (cond_no (eqb n m) (some u) (p m) x ∙ h)

new_yields : (s : Sub) (p : Part) (n : ℕ) (u : Term) → s n ≡ u → Respects s p → Yields s (some (also p n u))
new_yields s p n u e k =
    record { part = also p n u; found = refl; respects = λ m t h. at m t h (decide (eqb n m)) }
  where
    at : (m : ℕ) (t : Term) → also p n u m ≡ some t → T (eqb n m) ⊎ T (not (eqb n m)) → s m ≡ t
    at m t h (inl x) =
        ap s (sym (eqb→eq n m x)) ∙ e ∙ some-injective u t (sym (cond_yes (eqb n m) (some u) (p m) x) ∙ h)
    at m t h (inr x) = k m t (sym (cond_no (eqb n m) (some u) (p m) x) ∙ h)

-- one place
term_tells : (p : Part) (t u : Term) → Tells p (place_term p t u) (λ s. on_term s t ≡ u)
term_tells p (con c) u = if_tells p (eq_term (con c) u) _ (λ x s k. eq_term→eq (con c) u x)
term_tells p (var n) u = go (p n) refl
  where
    go : (o : Option Term) → p n ≡ o → Tells p (agree p n u o) (λ s. s n ≡ u)
    go none e = new_tells p n u e
    go (some t) e = if_tells p (eq_term t u) _ (λ x s k. k n t e ∙ eq_term→eq t u x)

term_yields : (s : Sub) (p : Part) (t u : Term) → on_term s t ≡ u → Respects s p → Yields s (place_term p t u)
term_yields s p (con c) u e k = if_yields s p (eq_term (con c) u) (eq→eq_term e) k
term_yields s p (var n) u e k = go (p n) refl
  where
    go : (o : Option Term) → p n ≡ o → Yields s (agree p n u o)
    go none h = new_yields s p n u e k
    go (some t) h = if_yields s p (eq_term t u) (eq→eq_term (sym (k n t h) ∙ e)) k

-- the places of an atom
terms_tell : (p : Part) (ts us : List Term) → Tells p (place_terms p ts us) (λ s. map (on_term s) ts ≡ us)
terms_tell p [] [] q e s k = (subst (Respects s) (sym (some-injective p q e)) k, refl)
terms_tell p [] (u ∷ us) q e s k = absurd (none≢some e)
terms_tell p (t ∷ ts) [] q e s k = absurd (none≢some e)
terms_tell p (t ∷ ts) (u ∷ us) q e s k = go (place_term p t u) refl e (λ p₁. terms_tell p₁ ts us)
  where
    Rest : Part → Type 0
    Rest p₁ = Tells p₁ (place_terms p₁ ts us) (λ s. map (on_term s) ts ≡ us)

    go : (o : Option Part) → place_term p t u ≡ o → bind o (λ p₁. place_terms p₁ ts us) ≡ some q
        → ((p₁ : Part) → Rest p₁) → Respects s p × (map (on_term s) (t ∷ ts) ≡ u ∷ us)
    go none e₁ e₂ below = absurd (none≢some e₂)
    go (some p₁) e₁ e₂ below =
        let two = below p₁ q e₂ s k in
        let one = term_tells p t u p₁ e₁ s two.0 in
        (one.0, ap₂ ◌∷◌ one.1 two.1)

terms_yield : (s : Sub) (p : Part) (ts us : List Term) → map (on_term s) ts ≡ us → Respects s p
    → Yields s (place_terms p ts us)
terms_yield s p [] [] e k = record { part = p; found = refl; respects = k }
terms_yield s p [] (u ∷ us) e k = absurd (nil≢cons e)
terms_yield s p (t ∷ ts) [] e k = absurd (cons≢nil e)
terms_yield s p (t ∷ ts) (u ∷ us) e k =
    let one = term_yields s p t u (head-eq_of_cons-eq e) k in
    let two = terms_yield s one.part ts us (tail-eq_of_cons-eq e) one.respects in
    record {
      part = two.part;
      found = ap (λ (o : Option Part). bind o (λ p₁. place_terms p₁ ts us)) one.found ∙ two.found;
      respects = two.respects;
    }

pub atom_tells : (p : Part) (a b : Atom) → Tells p (place_atom p a b) (λ s. on_atom s a ≡ b)
atom_tells p a b q e s k = go (decide (eqb a.rel b.rel))
  where
    r : Option Part
    r = place_terms p a.args b.args

    go : T (eqb a.rel b.rel) ⊎ T (not (eqb a.rel b.rel)) → Respects s p × (on_atom s a ≡ b)
    go (inl x) =
        let h = terms_tell p a.args b.args q (sym (cond_yes (eqb a.rel b.rel) r none x) ∙ e) s k in
        (h.0, atom_path (eqb→eq a.rel b.rel x) h.1)
    go (inr x) = absurd (none≢some (sym (cond_no (eqb a.rel b.rel) r none x) ∙ e))

pub atom_yields : (s : Sub) (p : Part) (a b : Atom) → on_atom s a ≡ b → Respects s p → Yields s (place_atom p a b)
atom_yields s p a b e k =
    let h = terms_yield s p a.args b.args (ap (λ (c : Atom). c.args) e) k in
    let x : T (eqb a.rel b.rel) =
    subst (λ (m : ℕ). T (eqb a.rel m)) (ap (λ (c : Atom). c.rel) e) (eqb_refl a.rel) in
    record {
      part = h.part;
      found = cond_yes (eqb a.rel b.rel) (place_terms p a.args b.args) none x ∙ h.found;
      respects = h.respects;
    }

-- the search
pub total : Part → Sub
total p n = get_or (p n) (var n)

pub total_respects : (p : Part) → Respects (total p) p
unfolding total
total_respects p n t e = ap (λ (o : Option Term). get_or o (var n)) e

pub record Found (A B : Question) (p : Part) : Type 0 where
  pub by : Sub
  pub respects : Respects by p
  pub sends : Sends by A B

pub search_sound : (A B : Question) (p : Part) → T (is_some (find_map A B p)) → Found A B p
unfolding find_map
search_sound [] B p t =
    record { by = total p; respects = total_respects p; sends = λ a m. absurd (Memᴰ.not-nil m) }
search_sound (a ∷ A) B p t = go (some_of _ t) (λ q. search_sound A B q)
  where
    at : (b : Atom) → b ∈ B → (o : Option Part) → place_atom p a b ≡ o → T (is_some (bind o (λ q. find_map A B q)))
        → ((q : Part) → T (is_some (find_map A B q)) → Found A B q) → Found (a ∷ A) B p
    at b m none e x below = absurd x
    at b m (some q) e x below =
        let f = below q x in
        let h = atom_tells p a b q e f.by f.respects in
        let each : (c : Atom) → (c ≡ a) ⊎ (c ∈ A) → on_atom f.by c ∈ B =
        λ c. elim [ inl i ↦ Memᴰ.cast (ap (on_atom f.by) i ∙ h.1) m | inr n ↦ f.sends c n ] in
        record { by = f.by; respects = h.0; sends = λ c n. each c (Memᴰ.cases_cons n) }

    go : (r : Part) × (first_of (λ b. bind (place_atom p a b) (λ q. find_map A B q)) B ≡ some r)
        → ((q : Part) → T (is_some (find_map A B q)) → Found A B q) → Found (a ∷ A) B p
    go h below =
        let f = first_of_out (λ b. bind (place_atom p a b) (λ q. find_map A B q)) B h.1 in
        at f.0 f.1 (place_atom p a f.0) refl (some_is f.2) below

pub search_complete : (A B : Question) (p : Part) (s : Sub) → Respects s p → Sends s A B → T (is_some (find_map A B p))
unfolding find_map
search_complete [] B p s k h = tt
search_complete (a ∷ A) B p s k h =
    let y = atom_yields s p a (on_atom s a) refl k in
    let rest = search_complete A B y.part s y.respects (λ b m. h b (Memᴰ.tail m)) in
    first_of_in
    (λ b. bind (place_atom p a b) (λ q. find_map A B q))
    B
    (h a (Memᴰ.head refl))
    (subst (λ (o : Option Part). T (is_some (bind o (λ q. find_map A B q)))) (sym y.found) rest)

pub covers_decides : (A B : Question) → T (covers A B) ↔ Covers A B
unfolding covers first_map
covers_decides A B = (
  λ t. let f = search_sound A B nowhere t in record { by = f.by; sends = f.sends },
  λ c. search_complete A B nowhere c.by (λ n t e. absurd (none≢some e)) c.sends,
)
