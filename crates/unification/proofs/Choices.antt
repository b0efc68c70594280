-- Choices: each is in the list, and each atom of the question is left or sent. Assumes nothing.
use mathlib.Core.Path.{◌≡◌, refl, sym, ap, subst}
use mathlib.Core.Bool.{Bool, not, ◌||◌}
use mathlib.Core.Logic.{◌⊎◌, inl, inr}
use mathlib.Core.List.Memᴰ
use mathlib.Core.List.{[], ◌∷◌, ◌++◌, map}
use Prim.Native.Nat.{ℕ, zero, suc, ◌<◌, ◌≤◌}
use native.Mathlib.Omega.{arith}
use lib.Dec.{T, eqb-suc-zero}
use lib.ListN.{length}
use Rattle.covering.specs.Covers.{Sends}
use Rattle.covering.specs.Lists.{◌∈◌, numbers}
use Rattle.covering.specs.Term.{Term, Atom, Question, terms, Sub, on_atom, on_question}
use Rattle.covering.proofs.Terms.{terms_in, terms_out}
use Rattle.unification.specs.Classes.{Kernel, HoldsPairs}
use Rattle.unification.specs.Choice.{Choice, choices, some_sent, left, sent, to_head, pairing}
use Rattle.unification.proofs.Collected.{gather_in, numbers_in}
use Rattle.unification.proofs.Pairs.{atom_holds, holds_append}

-- the digit of an atom whose image is in the head's image
pub record Digit (s : Sub) (H : Question) (a : Atom) : Type 0 where
  pub digit : ℕ
  pub small : digit < length H
  pub meets : HoldsPairs (Kernel s) (to_head H digit a)

pub find_digit : (s : Sub) (H : Question) (a : Atom) → on_atom s a ∈ on_question s H → Digit s H a
find_digit s [] a m = absurd (Memᴰ.not-nil m)
find_digit s (b ∷ H) a m = go (Memᴰ.cases_cons m) (λ n. find_digit s H a n)
  where
    go : (on_atom s a ≡ on_atom s b) ⊎ (on_atom s a ∈ on_question s H)
        → (on_atom s a ∈ on_question s H → Digit s H a) → Digit s (b ∷ H) a
    go (inl e) below = record { digit = 0; small = omega arith; meets = atom_holds s a b e }
    go (inr n) below = let r = below n in record { digit = suc r.digit; small = omega arith; meets = r.meets }

pub choices_in : (h n d : ℕ) (ds : Choice) → d ≤ h → ds ∈ choices h n → (d ∷ ds) ∈ choices h (suc n)
choices_in h n d ds k m =
    gather_in (λ e. map (λ es. e ∷ es) (choices h n)) (numbers 0 (suc h))
    (numbers_in 0 (suc h) d (omega arith) (omega arith)) (Memᴰ.map (λ es. d ∷ es) m)

-- the choice that a map of the question into the facts and the head's image makes
pub record Chosen (s : Sub) (F H Q : Question) : Type 0 where
  pub choice : Choice
  pub listed : choice ∈ choices (length H) (length Q)
  pub meets : HoldsPairs (Kernel s) (pairing choice Q H)
  pub leaves : Sends s (left choice Q) F

pub choose : (s : Sub) (F H Q : Question) → Sends s Q (F ++ on_question s H) → Chosen s F H Q
choose s F H [] h =
    record {
      choice = [];
      listed = Memᴰ.head refl;
      meets = λ p m. absurd (Memᴰ.not-nil m);
      leaves = λ a m. absurd (Memᴰ.not-nil m);
    }
choose s F H (a ∷ Q) h =
    go (Memᴰ.append_cases F (h a (Memᴰ.head refl))) (choose s F H Q (λ b m. h b (Memᴰ.tail m)))
  where
    go : (on_atom s a ∈ F) ⊎ (on_atom s a ∈ on_question s H) → Chosen s F H Q → Chosen s F H (a ∷ Q)
    go (inl m) c =
        record {
          choice = 0 ∷ c.choice;
          listed = choices_in (length H) (length Q) 0 c.choice (omega arith) c.listed;
          meets = c.meets;
          leaves = λ b n. stay b (Memᴰ.cases_cons n);
        }
      where
        stay : (b : Atom) → (b ≡ a) ⊎ (b ∈ left c.choice Q) → on_atom s b ∈ F
        stay b (inl e) = Memᴰ.cast (ap (on_atom s) e) m
        stay b (inr n) = c.leaves b n
    go (inr m) c =
        let d = find_digit s H a m in
        record {
          choice = suc d.digit ∷ c.choice;
          listed = choices_in (length H) (length Q) (suc d.digit) c.choice d.small c.listed;
          meets = holds_append (Kernel s) (to_head H d.digit a) (pairing c.choice Q H) d.meets c.meets;
          leaves = c.leaves;
        }

-- an idle choice leaves the question
pub idle : (ds : Choice) (Q : Question) → T (not (some_sent ds)) → left ds Q ≡ Q
idle [] Q t = refl
idle (d ∷ ds) [] t = refl
idle (zero ∷ ds) (a ∷ Q) t = ap (λ (A : Question). a ∷ A) (idle ds Q t)
idle (suc d ∷ ds) (a ∷ Q) t = absurd (subst (λ (b : Bool). T (not (not b || some_sent ds))) (eqb-suc-zero d) t)

-- a choice leaves an atom or pairs it with a head atom
pub split_choice : (E : Term → Term → Type 0) (ds : Choice) (Q H : Question) (a : Atom)
    → HoldsPairs E (pairing ds Q H) → a ∈ Q → (a ∈ left ds Q) ⊎ ((d : ℕ) × HoldsPairs E (to_head H d a))
split_choice E [] Q H a h m = inl m
split_choice E (d ∷ ds) [] H a h m = absurd (Memᴰ.not-nil m)
split_choice E (zero ∷ ds) (b ∷ Q) H a h m = go (Memᴰ.cases_cons m) (λ n. split_choice E ds Q H a h n)
  where
    go : (a ≡ b) ⊎ (a ∈ Q) → (a ∈ Q → (a ∈ left ds Q) ⊎ ((d : ℕ) × HoldsPairs E (to_head H d a)))
        → (a ∈ b ∷ left ds Q) ⊎ ((d : ℕ) × HoldsPairs E (to_head H d a))
    go (inl e) below = inl (Memᴰ.head e)
    go (inr n) below = more (below n)
      where
        more : (a ∈ left ds Q) ⊎ ((d : ℕ) × HoldsPairs E (to_head H d a))
            → (a ∈ b ∷ left ds Q) ⊎ ((d : ℕ) × HoldsPairs E (to_head H d a))
        more (inl k) = inl (Memᴰ.tail k)
        more (inr k) = inr k
split_choice E (suc d ∷ ds) (b ∷ Q) H a h m =
    go (Memᴰ.cases_cons m) (λ n. split_choice E ds Q H a (λ p q. h p (Memᴰ.append_right (to_head H d b) q)) n)
  where
    go : (a ≡ b) ⊎ (a ∈ Q) → (a ∈ Q → (a ∈ left ds Q) ⊎ ((d : ℕ) × HoldsPairs E (to_head H d a)))
        → (a ∈ left ds Q) ⊎ ((d : ℕ) × HoldsPairs E (to_head H d a))
    go (inl e) below =
        inr (
          d,
          subst (λ (c : Atom). HoldsPairs E (to_head H d c)) (sym e)
              (λ p q. h p (Memᴰ.append_left (pairing ds Q H) q)),
        )
    go (inr n) below = below n

pub left_in : (ds : Choice) (Q : Question) (a : Atom) → a ∈ left ds Q → a ∈ Q
left_in [] Q a m = m
left_in (d ∷ ds) [] a m = m
left_in (zero ∷ ds) (b ∷ Q) a (Memᴰ.head e) = Memᴰ.head e
left_in (zero ∷ ds) (b ∷ Q) a (Memᴰ.tail m) = Memᴰ.tail (left_in ds Q a m)
left_in (suc d ∷ ds) (b ∷ Q) a m = Memᴰ.tail (left_in ds Q a m)

pub sent_in : (ds : Choice) (Q : Question) (a : Atom) → a ∈ sent ds Q → a ∈ Q
sent_in [] Q a m = absurd (Memᴰ.not-nil m)
sent_in (d ∷ ds) [] a m = m
sent_in (zero ∷ ds) (b ∷ Q) a m = Memᴰ.tail (sent_in ds Q a m)
sent_in (suc d ∷ ds) (b ∷ Q) a (Memᴰ.head e) = Memᴰ.head e
sent_in (suc d ∷ ds) (b ∷ Q) a (Memᴰ.tail m) = Memᴰ.tail (sent_in ds Q a m)

pub terms_sent : (ds : Choice) (Q : Question) (t : Term) → t ∈ terms (sent ds Q) → t ∈ terms Q
terms_sent ds Q t m = let r = terms_out (sent ds Q) m in terms_in Q (sent_in ds Q r.0 r.1) r.2
