-- It does not matter which element of a class stands for it: two substitutions that put the same terms of a question
-- together, constants alike, give the same form. Hence the form of a form is itself. Assumes nothing.
use mathlib.Core.Path.{◌≡◌, refl, sym, ◌∙◌, ap, ap₂, subst}
use mathlib.Core.Bool.{Bool, cond, not}
use mathlib.Core.List.{List, [], ◌∷◌, map, map-map, nil≢cons, cons≢nil, head-eq_of_cons-eq, tail-eq_of_cons-eq}
use mathlib.Core.List.Memᴰ
use Prim.Native.Nat.{ℕ}
use lib.Dec.{T, eqb}
use Rattle.covering.specs.Lists.{◌∈◌, keep}
use Rattle.covering.specs.Term.{Term, var, con, Atom, Question, Sub, on_term, on_atom, on_question, terms, eq_term}
use Rattle.covering.specs.Term.{eq_atom, is_var}
use Rattle.covering.specs.Form.{dedup, firsts, index, numbering, renumber, form}
use Rattle.covering.proofs.Lists.{keep_same, map_same, map_none}
use Rattle.covering.proofs.Tests.{same_bool}
use Rattle.covering.proofs.Terms.{eq_term→eq, eq→eq_term, eq_atom→eq, eq_atom_refl, atom_path, var≢con, on_term_var}
use Rattle.covering.proofs.Terms.{on_term_comp, on_atom_var, terms_in, terms_out, terms_on}
use Rattle.covering.proofs.Form.{naming, named_back, dedup_distinct, dedup_none}
use Rattle.covering.proofs.Sifted.{sift, sift_out, sift_same, alike_atoms, dedup_on, num, reps, reps_out}
use Rattle.covering.proofs.Sifted.{firsts_reps, index_same}

-- two substitutions that put the same of these terms together and give constants alike: which element of a class
-- stands for it does not matter
pub record Alike (s t : Sub) (ts : List Term) : Type 0 where
  pub meets : (x y : Term) → x ∈ ts → y ∈ ts → on_term s x ≡ on_term s y → on_term t x ≡ on_term t y
  pub meets' : (x y : Term) → x ∈ ts → y ∈ ts → on_term t x ≡ on_term t y → on_term s x ≡ on_term s y
  pub const : (x : Term) (c : ℕ) → x ∈ ts → on_term s x ≡ con c → on_term t x ≡ con c
  pub const' : (x : Term) (c : ℕ) → x ∈ ts → on_term t x ≡ con c → on_term s x ≡ con c

module _ (s t : Sub) where
  -- both variables, or the same constant
  pub data Both (a b : Term) : Type 0 where
    vars : (m n : ℕ) → a ≡ var m → b ≡ var n → Both a b
    cons : (c : ℕ) → a ≡ con c → b ≡ con c → Both a b

  both_of : (ts : List Term) → Alike s t ts → (x : Term) → x ∈ ts → Both (on_term s x) (on_term t x)
  both_of ts al x m = go (on_term s x) refl (on_term t x) refl
    where
      go : (a : Term) → on_term s x ≡ a → (b : Term) → on_term t x ≡ b → Both (on_term s x) (on_term t x)
      go (var i) p (var j) q = vars i j p q
      go (con c) p b q = cons c p (al.const x c m p)
      go (var i) p (con d) q = absurd (var≢con (sym p ∙ al.const' x d m q))

  module _ (ts : List Term) (al : Alike s t ts) where
    pub eq_same : (x y : Term) → x ∈ ts → y ∈ ts
        → eq_term (on_term s x) (on_term s y) ≡ eq_term (on_term t x) (on_term t y)
    eq_same x y m n =
        same_bool
        (eq_term (on_term s x) (on_term s y))
        (eq_term (on_term t x) (on_term t y))
        (λ h. eq→eq_term (al.meets x y m n (eq_term→eq _ _ h)))
        (λ h. eq→eq_term (al.meets' x y m n (eq_term→eq _ _ h)))

    pub var_same : (x : Term) → x ∈ ts → is_var (on_term s x) ≡ is_var (on_term t x)
    var_same x m = go (both_of ts al x m)
      where
        go : Both (on_term s x) (on_term t x) → is_var (on_term s x) ≡ is_var (on_term t x)
        go (vars i j p q) = ap is_var p ∙ ap is_var (sym q)
        go (cons c p q) = ap is_var p ∙ ap is_var (sym q)

    reps_same : (us : List Term) → ((x : Term) → x ∈ us → x ∈ ts) → reps s us ≡ reps t us
    reps_same [] h = refl
    reps_same (x ∷ us) h =
        ap₂
        (λ (b : Bool) (l : List Term). cond b (x ∷ keep (λ y. not (eq_term (on_term s x) (on_term s y))) l) l)
        (var_same x (h x (Memᴰ.head refl)))
        (reps_same us (λ y m. h y (Memᴰ.tail m)))
        ∙ ap
        (λ (l : List Term). cond (is_var (on_term t x)) (x ∷ l) (reps t us))
        (keep_same _ _ (reps t us) (λ y m. ap not (eq_same x y (h x (Memᴰ.head refl)) (old y m))))
      where
        old : (y : Term) → y ∈ reps t us → y ∈ ts
        old y m = h y (Memᴰ.tail (reps_out t us m).0)

  -- how the terms' images are numbered
  abbrev numbered : List Term → Sub → Sub
  numbered ts r n = var (index (firsts (map (on_term r) ts)) n)

  module _ (ts : List Term) (al : Alike s t ts) where
    number_same : (x : Term) → x ∈ ts
        → on_term (numbered ts s) (on_term s x) ≡ on_term (numbered ts t) (on_term t x)
    number_same x m = go (both_of ts al x m)
      where
        f : Term → ℕ
        f y = num (on_term s y)

        g : Term → ℕ
        g y = num (on_term t y)

        eqb_var : (a b : Term) → T (is_var a) → T (is_var b) → eqb (num a) (num b) ≡ eq_term a b
        eqb_var (var i) (var j) p q = refl
        eqb_var (var i) (con c) p q = absurd q
        eqb_var (con c) b p q = absurd p

        over : (y : Term) → y ∈ ts → T (is_var (on_term s y)) → T (is_var (on_term t y))
        over y k = subst T (var_same ts al y k)

        level : T (is_var (on_term s x)) → (y : Term) → y ∈ reps s ts → eqb (f y) (f x) ≡ eqb (g y) (g x)
        level v y k =
            let r = reps_out s ts k in
            eqb_var (on_term s y) (on_term s x) r.1 v
            ∙ eq_same ts al y x r.0 m
            ∙ sym (eqb_var (on_term t y) (on_term t x) (over y r.0 r.1) (over x m v))

        place : T (is_var (on_term s x))
            → index (firsts (map (on_term s) ts)) (f x) ≡ index (firsts (map (on_term t) ts)) (g x)
        place v =
            ap (λ (l : List ℕ). index l (f x)) (firsts_reps s ts)
            ∙ index_same f g x (reps s ts) (level v)
            ∙ ap (λ (l : List Term). index (map g l) (g x)) (reps_same ts al ts (λ y k. k))
            ∙ ap (λ (l : List ℕ). index l (g x)) (sym (firsts_reps t ts))

        go : Both (on_term s x) (on_term t x)
            → on_term (numbered ts s) (on_term s x) ≡ on_term (numbered ts t) (on_term t x)
        go (vars i j p q) =
            ap (on_term (numbered ts s)) p
            ∙ ap
            var
            (ap (index (firsts (map (on_term s) ts))) (sym (ap num p))
            ∙ place (subst (λ (z : Term). T (is_var z)) (sym p) tt)
            ∙ ap (index (firsts (map (on_term t) ts))) (ap num q))
            ∙ ap (on_term (numbered ts t)) (sym q)
        go (cons c p q) = ap (on_term (numbered ts s)) p ∙ ap (on_term (numbered ts t)) (sym q)

  renumber_same : (A : Question) → Alike s t (terms A) → renumber (on_question s A) ≡ renumber (on_question t A)
  renumber_same A al =
      map-map (on_atom (numbering (on_question s A))) (on_atom s) A
      ∙ map_same _ _ A (λ a m. atom_path refl (args a m))
      ∙ sym (map-map (on_atom (numbering (on_question t A))) (on_atom t) A)
    where
      by_terms : (r : Sub) (x : Term) → on_term (numbering (on_question r A)) x ≡ on_term (numbered (terms A) r) x
      by_terms r x = ap (λ (l : List Term). on_term (λ n. var (index (firsts l) n)) x) (terms_on r A)

      one : (a : Atom) → a ∈ A → (x : Term) → x ∈ a.args
          → on_term (numbering (on_question s A)) (on_term s x) ≡ on_term (numbering (on_question t A)) (on_term t x)
      one a m x k =
          by_terms s (on_term s x) ∙ number_same (terms A) al x (terms_in A m k) ∙ sym (by_terms t (on_term t x))

      args : (a : Atom) → a ∈ A → map (on_term (numbering (on_question s A))) (map (on_term s) a.args)
          ≡ map (on_term (numbering (on_question t A))) (map (on_term t) a.args)
      args a m =
          map-map (on_term (numbering (on_question s A))) (on_term s) a.args
          ∙ map_same _ _ a.args (one a m)
          ∙ sym (map-map (on_term (numbering (on_question t A))) (on_term t) a.args)

  -- what s puts together, t puts together
  args_same : (A : Question) → Alike s t (terms A) → (xs ys : List Term) → ((x : Term) → x ∈ xs → x ∈ terms A)
      → ((x : Term) → x ∈ ys → x ∈ terms A) → map (on_term s) xs ≡ map (on_term s) ys
      → map (on_term t) xs ≡ map (on_term t) ys
  args_same A al [] [] h k q = refl
  args_same A al [] (y ∷ ys) h k q = absurd (nil≢cons q)
  args_same A al (x ∷ xs) [] h k q = absurd (cons≢nil q)
  args_same A al (x ∷ xs) (y ∷ ys) h k q =
      ap₂
      ◌∷◌
      (al.meets x y (h x (Memᴰ.head refl)) (k y (Memᴰ.head refl)) (head-eq_of_cons-eq q))
      (args_same A al xs ys (λ z m. h z (Memᴰ.tail m)) (λ z m. k z (Memᴰ.tail m)) (tail-eq_of_cons-eq q))

  atom_same : (A : Question) → Alike s t (terms A) → (a b : Atom) → a ∈ A → b ∈ A → on_atom s a ≡ on_atom s b
      → on_atom t a ≡ on_atom t b
  atom_same A al a b m n e =
      atom_path
      (ap (λ (c : Atom). c.rel) e)
      (args_same A al a.args b.args (λ x k. terms_in A m k) (λ x k. terms_in A n k) (ap (λ (c : Atom). c.args) e))

pub alike_turn : {s t : Sub} {ts : List Term} → Alike s t ts → Alike t s ts
alike_turn al = record { meets = al.meets'; meets' = al.meets; const = al.const'; const' = al.const }

pub alike_part : {s t : Sub} {ts us : List Term} → ((x : Term) → x ∈ us → x ∈ ts) → Alike s t ts → Alike s t us
alike_part h al =
    record {
      meets = λ x y m n. al.meets x y (h x m) (h y n);
      meets' = λ x y m n. al.meets' x y (h x m) (h y n);
      const = λ x c m. al.const x c (h x m);
      const' = λ x c m. al.const' x c (h x m);
    }

pub form_same : (s t : Sub) (A : Question) → Alike s t (terms A) → form (on_question s A) ≡ form (on_question t A)
unfolding form
form_same s t A al =
    ap renumber (dedup_on s A ∙ ap (on_question s) (sift_same (alike_atoms s) (alike_atoms t) A alike))
    ∙ renumber_same s t left (alike_part inside al)
    ∙ ap renumber (sym (dedup_on t A))
  where
    left : Question
    left = sift (alike_atoms t) A

    inside : (x : Term) → x ∈ terms left → x ∈ terms A
    inside x m = let r = terms_out left m in terms_in A (sift_out (alike_atoms t) A r.0 r.1) r.2

    carry : (u v : Sub) → Alike u v (terms A) → (a b : Atom) → a ∈ A → b ∈ A → T (alike_atoms u a b)
        → T (alike_atoms v a b)
    carry u v uv a b m n h =
        subst
        (λ (y : Atom). T (eq_atom (on_atom v a) y))
        (atom_same u v A uv a b m n (eq_atom→eq (on_atom u a) (on_atom u b) h))
        (eq_atom_refl (on_atom v a))

    alike : (a b : Atom) → a ∈ A → b ∈ A → alike_atoms s a b ≡ alike_atoms t a b
    alike a b m n =
        same_bool
        (alike_atoms s a b)
        (alike_atoms t a b)
        (carry s t al a b m n)
        (carry t s (alike_turn al) a b m n)

-- numbering puts nothing together
numbering_alike : (A : Question) → Alike (numbering A) var (terms A)
numbering_alike A =
    record {
      meets = λ x y m n e.
          on_term_var x ∙ sym (undo x m) ∙ ap (on_term (naming A)) e ∙ undo y n ∙ sym (on_term_var y);
      meets' = λ x y m n e. ap (on_term (numbering A)) (sym (on_term_var x) ∙ e ∙ on_term_var y);
      const = λ x c m e. on_term_var x ∙ only x c e;
      const' = λ x c m e. ap (on_term (numbering A)) (sym (on_term_var x) ∙ e);
    }
  where
    undo : (x : Term) → x ∈ terms A → on_term (naming A) (on_term (numbering A) x) ≡ x
    undo x m = on_term_comp (naming A) (numbering A) x ∙ named_back A x m

    only : (x : Term) (c : ℕ) → on_term (numbering A) x ≡ con c → x ≡ con c
    only (var n) c e = absurd (var≢con e)
    only (con d) c e = e

pub form_form : (A : Question) → form (form A) ≡ form A
unfolding form
form_form A =
    form_same (numbering (dedup A)) var (dedup A) (numbering_alike (dedup A))
    ∙ ap form (map_none (on_atom var) (dedup A) (λ a m. on_atom_var a))
    ∙ ap renumber (dedup_none (dedup A) (dedup_distinct A))
