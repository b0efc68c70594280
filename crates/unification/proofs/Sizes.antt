-- What a listed rewriting is made of: it is in form, has fewer atoms than the question and the body together, and
-- takes its relations, its numbers of places and its constants from the question and the rule. So a record has room
-- for it. Assumes nothing.
use mathlib.Core.Path.{◌≡◌, refl, sym, ◌∙◌, ap, subst}
use mathlib.Core.Logic.{◌⊎◌, inl, inr}
use mathlib.Core.List.Memᴰ
use mathlib.Core.List.{List, [], ◌∷◌, ◌++◌}
use Prim.Native.Nat.{ℕ, zero, suc, ◌+◌, ◌<◌, ◌≤◌}
use native.Mathlib.Omega.{arith}
use lib.Dec.{T}
use lib.ListN.{length, length-append, length-map}
use Rattle.covering.specs.Form.{dedup, numbering, form}
use Rattle.covering.specs.Lists.{◌∈◌}
use Rattle.covering.specs.Term.{Term, Atom, Question, terms, Sub, on_term, on_atom, on_question, var, con, Below}
use Rattle.covering.proofs.SameForm.{form_form}
use Rattle.covering.proofs.Terms.{var≢con, terms_in, terms_out, terms_append, terms_on}
use Rattle.covering.specs.Rule.{Rule}
use Rattle.unification.specs.Choice.{Choice, some_sent, left}
use Rattle.unification.specs.Step.{up, move, rewriting}
use Rattle.covering.proofs.FormSizes.{form_atom, form_length}
use Rattle.unification.proofs.Choices.{left_in}
use Rattle.unification.proofs.Listed.{Made}
use Rattle.unification.proofs.Means.{class_constant}
use Rattle.unification.proofs.Moved.{moved_term}
use Rattle.unification.proofs.Numbers.{choice_length}

-- a listed rewriting is in form
pub listed_form : {k : ℕ} {r : Rule} {Q : Question} {n : ℕ} {X : Question} → Made k r Q n X → form X ≡ X
listed_form {k} {r} {Q} w =
    ap form (sym w.is) ∙ form_form (rewriting w.classes (left w.choice Q) (move k r)) ∙ w.is

-- fewer atoms than the question and the body together: some atom is sent
left_length : (ds : Choice) (Q : Question) → length (left ds Q) ≤ length Q
left_length [] Q = omega arith
left_length (d ∷ ds) [] = omega arith
left_length (zero ∷ ds) (a ∷ Q) = let h : length (left ds Q) ≤ length Q = left_length ds Q in omega arith
left_length (suc d ∷ ds) (a ∷ Q) = let h : length (left ds Q) ≤ length Q = left_length ds Q in omega arith

left_shorter : (ds : Choice) (Q : Question) → length ds ≡ length Q → T (some_sent ds) → length (left ds Q) < length Q
left_shorter [] Q e t = absurd t
left_shorter (d ∷ ds) [] e t = absurd (omega arith)
left_shorter (zero ∷ ds) (a ∷ Q) e t =
    let h : length (left ds Q) < length Q = left_shorter ds Q (omega arith) t in omega arith
left_shorter (suc d ∷ ds) (a ∷ Q) e t = let h : length (left ds Q) ≤ length Q = left_length ds Q in omega arith

pub listed_length : {k : ℕ} {r : Rule} {Q : Question} {n : ℕ} {X : Question} → Made k r Q n X
    → length X < length Q + length r.body
listed_length {k} {r} {Q} {n} {X} w =
    let long : length ds ≡ length Q = choice_length (length r.head) (length Q) ds w.among in
    let fewer : length (left ds Q) < length Q = left_shorter ds Q long w.sends in
    let whole : length R ≡ length (left ds Q ++ (move k r).body) =
    length-map (left ds Q ++ (move k r).body) (on_atom w.classes) in
    let parts : length (left ds Q ++ (move k r).body) ≡ length (left ds Q) + length (move k r).body =
    length-append (left ds Q) (move k r).body in
    let body : length (move k r).body ≡ length r.body = length-map r.body (on_atom (up k)) in
    let most : length (form R) ≤ length R = form_length R in
    let same : length (form R) ≡ length X = ap length w.is in
    omega arith
  where
    ds : Choice
    ds = w.choice

    R : Question
    R = rewriting w.classes (left ds Q) (move k r)

-- each atom has the relation and the number of places of one of the question or the body
pub record Shape (A : Question) (a : Atom) : Type 0 where
  pub like : Atom
  pub among : like ∈ A
  pub relation : a.rel ≡ like.rel
  pub places : length a.args ≡ length like.args

shape_on : (s : Sub) (A : Question) (a b : Atom) → Shape A b → on_atom s b ≡ a → Shape A a
shape_on s A a b h e =
    record {
      like = h.like;
      among = h.among;
      relation = sym (ap (λ (c : Atom). c.rel) e) ∙ h.relation;
      places = sym (ap (λ (c : Atom). length c.args) e) ∙ length-map b.args (on_term s) ∙ h.places;
    }

pub listed_shape : {k : ℕ} {r : Rule} {Q : Question} {n : ℕ} {X : Question} → Made k r Q n X → (a : Atom)
    → a ∈ X → Shape (Q ++ r.body) a
listed_shape {k} {r} {Q} {n} {X} w a m = formed (form_atom R a (subst (λ (A : Question). a ∈ A) (sym w.is) m))
  where
    L : Question
    L = left w.choice Q

    R : Question
    R = rewriting w.classes L (move k r)

    own_shape : (b : Atom) → b ∈ Q ++ r.body → Shape (Q ++ r.body) b
    own_shape b x = record { like = b; among = x; relation = refl; places = refl }

    moved : (b : Atom) → (c : Atom) × (c ∈ r.body) × (on_atom (up k) c ≡ b) → Shape (Q ++ r.body) b
    moved b x = shape_on (up k) (Q ++ r.body) b x.0 (own_shape x.0 (Memᴰ.append_right Q x.1)) x.2

    part : (b : Atom) → (b ∈ L) ⊎ (b ∈ (move k r).body) → Shape (Q ++ r.body) b
    part b (inl x) = own_shape b (Memᴰ.append_left r.body (left_in w.choice Q b x))
    part b (inr x) = moved b (Memᴰ.of_map (on_atom (up k)) r.body x)

    replaced : (b : Atom) → (c : Atom) × (c ∈ L ++ (move k r).body) × (on_atom w.classes c ≡ b)
        → Shape (Q ++ r.body) b
    replaced b x =
        shape_on w.classes (Q ++ r.body) b x.0 (part x.0 (Memᴰ.append_cases L x.1)) x.2

    formed : (b : Atom) × (b ∈ R) × (on_atom (numbering (dedup R)) b ≡ a) → Shape (Q ++ r.body) a
    formed x =
        shape_on (numbering (dedup R)) (Q ++ r.body) a x.0
        (replaced x.0 (Memᴰ.of_map (on_atom w.classes) (L ++ (move k r).body) x.1))
        x.2

-- each constant is one of the question or the rule
pub listed_constant : {k : ℕ} {r : Rule} {Q : Question} {n : ℕ} {X : Question} → Below k Q → Made k r Q n X
    → (c : ℕ) → con c ∈ terms X → con c ∈ terms Q ++ (terms r.body ++ terms r.head)
listed_constant {k} {r} {Q} {n} {X} below w c m =
    formed (terms_out (form R) (subst (λ (A : Question). con c ∈ terms A) (sym w.is) m))
  where
    L : Question
    L = left w.choice Q

    R : Question
    R = rewriting w.classes L (move k r)

    All : Type 0
    All = con c ∈ terms Q ++ (terms r.body ++ terms r.head)

    in_body : con c ∈ terms r.body → All
    in_body x = Memᴰ.append_right (terms Q) (Memᴰ.append_left (terms r.head) x)

    in_head : con c ∈ terms r.head → All
    in_head x = Memᴰ.append_right (terms Q) (Memᴰ.append_right (terms r.body) x)

    -- a constant is moved nowhere
    unmoved_constant : (A : Question) → con c ∈ terms (on_question (up k) A) → con c ∈ terms A
    unmoved_constant A x = at (moved_term k A x)
      where
        go : (t : Term) → t ∈ terms A → on_term (up k) t ≡ con c → con c ∈ terms A
        go (var i) y e = absurd (var≢con e)
        go (con d) y e = Memᴰ.cast (sym e) y

        at : (t : Term) × (t ∈ terms A) × (on_term (up k) t ≡ con c) → con c ∈ terms A
        at y = go y.0 y.1 y.2

    -- a variable that a constant stands for is in its class
    in_class : (i : ℕ) → w.classes i ≡ con c → All
    in_class i e = at (class_constant k r Q below w.choice w.classes w.found i c e)
      where
        at : (con c ∈ terms Q) ⊎ (con c ∈ terms (move k r).head) → All
        at (inl x) = Memᴰ.append_left (terms r.body ++ terms r.head) x
        at (inr x) = in_head (unmoved_constant r.head x)

    stands : (t : Term) → t ∈ terms (L ++ (move k r).body) → on_term w.classes t ≡ con c → All
    stands (var i) x e = in_class i e
    stands (con d) x e =
        at
        (Memᴰ.append_cases (terms L)
        (subst (λ (l : List Term). con c ∈ l) (terms_append L (move k r).body) (Memᴰ.cast (sym e) x)))
      where
        at : (con c ∈ terms L) ⊎ (con c ∈ terms (move k r).body) → All
        at (inl y) =
            let z = terms_out L y in
            Memᴰ.append_left (terms r.body ++ terms r.head)
            (terms_in Q (left_in w.choice Q z.0 z.1) z.2)
        at (inr y) = in_body (unmoved_constant r.body y)

    replaced : (t : Term) × (t ∈ terms (L ++ (move k r).body)) × (on_term w.classes t ≡ con c) → All
    replaced x = stands x.0 x.1 x.2

    -- numbering gives no constant
    numbered : (t : Term) → t ∈ terms R → on_term (numbering (dedup R)) t ≡ con c → All
    numbered (var i) x e = absurd (var≢con e)
    numbered (con d) x e =
        replaced
        (Memᴰ.of_map (on_term w.classes) (terms (L ++ (move k r).body))
        (subst (λ (l : List Term). con c ∈ l)
        (terms_on w.classes (L ++ (move k r).body)) (Memᴰ.cast (sym e) x)))

    formed : (a : Atom) × (a ∈ form R) × (con c ∈ a.args) → All
    formed x = at (form_atom R x.0 x.1)
      where
        term : (b : Atom) → b ∈ R → (t : Term) × (t ∈ b.args) × (on_term (numbering (dedup R)) t ≡ con c) → All
        term b y z = numbered z.0 (terms_in R y z.1) z.2

        at : (b : Atom) × (b ∈ R) × (on_atom (numbering (dedup R)) b ≡ x.0) → All
        at y =
            term y.0 y.1
            (Memᴰ.of_map (on_term (numbering (dedup R))) y.0.args
            (subst (λ (d : Atom). con c ∈ d.args) (sym y.2) x.2))
