-- A rule is tried only where it can be: if no atom of the question has the relation of a head atom, no choice is valid, and
-- nothing is listed (`none_listed`). An atom that has the relation of none is left by every valid choice (`unmet_left`).
-- Assumes nothing.
use mathlib.Core.Path.{◌≡◌, refl, sym, ◌∙◌, ap}
use mathlib.Core.List.Memᴰ
use mathlib.Core.List.{List, [], ◌∷◌, map}
use mathlib.Core.Option.{Option, none, some}
use Prim.Native.Nat.{ℕ, zero, suc}
use native.Mathlib.Omega.{arith}
use lib.Dec.{T}
use lib.ListN.{length}
use Rattle.covering.specs.Lists.{◌∈◌, keep, bind, head, collect, numbers}
use Rattle.covering.specs.Term.{var, con, Atom, Question, Sub, on_atom}
use Rattle.covering.specs.Rule.{Rule}
use Rattle.covering.proofs.Terms.{con_inj}
use Rattle.covering.proofs.Lists.{keep_out}
use Rattle.unification.specs.Classes.{Pair, unify, Kernel, HoldsPairs}
use Rattle.unification.specs.Choice.{Choice, number, choices, some_sent, left, to_head, pairing}
use Rattle.unification.specs.Step.{up, move, judge, step, label, from, listed, next}
use Rattle.unification.proofs.Classes.{unify_sound}
use Rattle.unification.proofs.Collected.{gather_out}
use Rattle.unification.proofs.Listed.{Made}
use Rattle.unification.proofs.Pairs.{head_of}

-- no atom of the one has the relation of an atom of the other
abbrev pub Unrelated : Question → Question → Type 0
Unrelated A H = (a b : Atom) → a ∈ A → b ∈ H → a.rel ≡ b.rel → ⊥

-- a choice has a digit for each atom
choice_long : (h n : ℕ) (ds : Choice) → ds ∈ choices h n → length ds ≡ n
choice_long h zero ds (Memᴰ.tail x5) = elim x5 [ ]
choice_long h zero ds (Memᴰ.head e) = ap length e
choice_long h (suc n) ds m =
    let g = gather_out (λ d. map (λ es. d ∷ es) (choices h n)) (numbers 0 (suc h)) m in
    let x = Memᴰ.of_map (λ es. g.0 ∷ es) (choices h n) g.2 in
    ap length (sym x.2) ∙ ap suc (choice_long h n x.0 x.1)

-- an atom that is sent has the relation of a head atom
sent_related : (s : Sub) (H : Question) (ds : Choice) (Q : Question) → length ds ≡ length Q → T (some_sent ds)
    → HoldsPairs (Kernel s) (pairing ds Q H) → (a b : Atom) × (a ∈ Q) × (b ∈ H) × (a.rel ≡ b.rel)
sent_related s H [] Q e t h = absurd t
sent_related s H (d ∷ ds) [] e t h = absurd (omega arith)
sent_related s H (zero ∷ ds) (a ∷ Q) e t h =
    let r = sent_related s H ds Q (omega arith) t h in (r.0, r.1, Memᴰ.tail r.2, r.3, r.4)
sent_related s H (suc d ∷ ds) (a ∷ Q) e t h =
    let b = head_of s H d a (λ p m. h p (Memᴰ.append_left (pairing ds Q H) m)) in
    (a, b.0, Memᴰ.head refl, b.1, con_inj (b.2 (con a.rel, con b.0.rel) (Memᴰ.head refl)))

-- an atom with the relation of none is left
unsent_left : (s : Sub) (H : Question) (ds : Choice) (Q : Question) → length ds ≡ length Q
    → HoldsPairs (Kernel s) (pairing ds Q H) → (a : Atom) → a ∈ Q → Unrelated (a ∷ []) H → a ∈ left ds Q
unsent_left s H ds [] e h a m f = absurd (Memᴰ.not-nil m)
unsent_left s H [] (b ∷ Q) e h a m f = absurd (omega arith)
unsent_left s H (zero ∷ ds) (b ∷ Q) e h a (Memᴰ.head i) f = Memᴰ.head i
unsent_left s H (zero ∷ ds) (b ∷ Q) e h a (Memᴰ.tail m) f =
    Memᴰ.tail (unsent_left s H ds Q (omega arith) h a m f)
unsent_left s H (suc d ∷ ds) (b ∷ Q) e h a (Memᴰ.head i) f =
    let c = head_of s H d b (λ p n. h p (Memᴰ.append_left (pairing ds Q H) n)) in
    absurd
    (f a c.0 (Memᴰ.head refl) c.1
    (ap (λ (x : Atom). x.rel) i ∙ con_inj (c.2 (con b.rel, con c.0.rel) (Memᴰ.head refl))))
unsent_left s H (suc d ∷ ds) (b ∷ Q) e h a (Memᴰ.tail m) f =
    unsent_left s H ds Q (omega arith) (λ p n. h p (Memᴰ.append_right (to_head H d b) n)) a m f

-- moving a rule's variables keeps its relations
moved_unrelated : (k : ℕ) (r : Rule) (Q : Question) → Unrelated Q r.head → Unrelated Q (move k r).head
moved_unrelated k r Q f a b m n e =
    let x = Memᴰ.of_map (on_atom (up k)) r.head n in
    f a x.0 m x.1 (e ∙ ap (λ (c : Atom). c.rel) (sym x.2))

module _ (k : ℕ) (r : Rule) (Q : Question) (f : Unrelated Q r.head) where
  no_step : (ds : Choice) → length ds ≡ length Q → T (some_sent ds) → step k r Q ds ≡ none
  unfolding step
  no_step ds long t = at (unify ps var) refl
    where
      ps : List Pair
      ps = pairing ds Q (move k r).head

      at : (o : Option Sub) → unify ps var ≡ o → bind o (judge (left ds Q) (move k r)) ≡ none
      at none e = refl
      at (some σ) e =
          let x = sent_related σ (move k r).head ds Q long t (unify_sound ps var σ e).holds in
          absurd (moved_unrelated k r Q f x.0 x.1 x.2 x.3 x.4)

  abbrev gives : Choice → Option (ℕ × Question)
  gives ds = label (number (length r.head) ds) (step k r Q ds)

  none_collected : (cs : List Choice) → ((ds : Choice) → ds ∈ cs → (length ds ≡ length Q) × T (some_sent ds))
      → collect gives cs ≡ []
  none_collected [] h = refl
  none_collected (ds ∷ cs) h =
      let x = h ds (Memᴰ.head refl) in
      rw (no_step ds x.0 x.1) (none_collected cs (λ es m. h es (Memᴰ.tail m)))

  pub none_listed : listed k r Q ≡ []
  unfolding listed
  none_listed =
      none_collected (keep some_sent (choices (length r.head) (length Q)))
      (λ ds m.
      let x = keep_out some_sent (choices (length r.head) (length Q)) m in
      (choice_long (length r.head) (length Q) ds x.0, x.1))

  pub none_next : (n : ℕ) → next k r Q n ≡ none
  unfolding next
  none_next n = ap (λ (l : List (ℕ × Question)). head (from n l)) none_listed

pub unmet_left : (k : ℕ) (r : Rule) (Q : Question) {n : ℕ} {P : Question} (w : Made k r Q n P) (a : Atom) → a ∈ Q
    → Unrelated (a ∷ []) r.head → a ∈ left w.choice Q
unmet_left k r Q w a m f =
    unsent_left w.classes (move k r).head w.choice Q (choice_long (length r.head) (length Q) w.choice w.among)
    (unify_sound (pairing w.choice Q (move k r).head) var w.classes w.found).holds a m
    (moved_unrelated k r (a ∷ []) f)
