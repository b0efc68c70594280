-- What a choice sends and where to, for a question in which no two atoms are equal: the question without it is what
-- is left (`left_without`), its places are the choice's digits (`digits_back`), and whatever puts each sent atom on
-- its head atom holds the choice's pairs (`puts_pairing`). Assumes nothing.
use mathlib.Core.Path.{◌≡◌, refl, sym, ◌∙◌, ap, ap₂, subst}
use mathlib.Core.Bool.{Bool, true, cond, not, ◌||◌}
use mathlib.Core.Logic.{◌⊎◌, inl, inr}
use mathlib.Core.List.Memᴰ
use mathlib.Core.List.{List, [], ◌∷◌}
use mathlib.Core.Option.{Option, some, some-injective, none}
use Prim.Native.Nat.{ℕ, zero, suc}
use native.Mathlib.Omega.{arith}
use lib.Dec.{T}
use lib.ListN.{length, get_elem?}
use Rattle.covering.specs.Lists.{◌∈◌, Distinct, push}
use Rattle.covering.specs.Term.{Term, Atom, Question, Sub, eq_atom}
use Rattle.covering.proofs.Lists.{keep_all, keep_same, map_same}
use Rattle.covering.proofs.Tests.{not_of, no→false, none≢some, cond_yes, cond_no}
use Rattle.covering.proofs.Terms.{eq_atom→eq, eq_atom_refl}
use Rattle.unification.specs.Classes.{Kernel, Equivalence, HoldsPairs}
use Rattle.unification.specs.Choice.{Choice, left, sent, to_head, pairing}
use Rattle.unification.specs.Published.{mem_atom, without, digits}
use Rattle.unification.specs.Published.{PutsOn}
use Rattle.unification.proofs.Choices.{sent_in}
use Rattle.unification.proofs.Pairs.{holds_append}
use Rattle.unification.proofs.Pieces.{mem→mem_atom, mem_atom→mem, not_not}
use Rattle.unification.proofs.Puts.{puts_hold, hold_puts, at_head, head_at, at_in, head_there}

-- the head atoms that a choice sends to
abbrev pub hits : Choice → Question → Question → Question
hits [] q H = []
hits (d ∷ ds) [] H = []
hits (zero ∷ ds) (a ∷ q) H = hits ds q H
hits (suc d ∷ ds) (a ∷ q) H = push (get_elem? H d) (hits ds q H)

-- the place of the head atom to which a choice sends an atom
abbrev pub before : ℕ → ℕ
before zero = zero
before (suc d) = d

abbrev pub place_of : Choice → Question → Atom → ℕ
place_of [] Q a = 0
place_of (d ∷ ds) [] a = 0
place_of (d ∷ ds) (b ∷ Q) a = cond (eq_atom a b) (before d) (place_of ds Q a)

not_equal : (a b : Atom) → ¬ (a ≡ b) → T (not (eq_atom a b))
not_equal a b f = not_of (eq_atom a b) (λ t. f (eq_atom→eq a b t))

not_member : (a : Atom) (A : Question) → ¬ (a ∈ A) → T (not (mem_atom a A))
not_member a A f = not_of (mem_atom a A) (λ t. f (mem_atom→mem A t))

-- an atom of the rest is not the first
other : {a b : Atom} {Q : Question} → ¬ (a ∈ Q) → b ∈ Q → ¬ (b ≡ a)
other f m e = f (Memᴰ.cast (sym e) m)

place_first : (d : ℕ) (ds : Choice) (a : Atom) (Q : Question) → place_of (d ∷ ds) (a ∷ Q) a ≡ before d
place_first d ds a Q = cond_yes (eq_atom a a) (before d) (place_of ds Q a) (eq_atom_refl a)

place_rest : (d : ℕ) (ds : Choice) (a b : Atom) (Q : Question) → ¬ (b ≡ a)
    → place_of (d ∷ ds) (a ∷ Q) b ≡ place_of ds Q b
place_rest d ds a b Q f = cond_no (eq_atom b a) (before d) (place_of ds Q b) (not_equal b a f)

member_rest : (a b : Atom) (A : Question) → ¬ (b ≡ a) → mem_atom b (a ∷ A) ≡ mem_atom b A
member_rest a b A f = ap (λ (x : Bool). x || mem_atom b A) (no→false (eq_atom b a) (λ t. f (eq_atom→eq b a t)))

place_later : (H : Question) (d : ℕ) (ds : Choice) (a b : Atom) (Q : Question) → Distinct (a ∷ Q) → b ∈ sent ds Q
    → get_elem? H (place_of (d ∷ ds) (a ∷ Q) b) ≡ get_elem? H (place_of ds Q b)
place_later H d ds a b Q x m = ap (get_elem? H) (place_rest d ds a b Q (other x.0 (sent_in ds Q b m)))

-- where no two atoms are equal, what is left is the question without what is sent
pub left_without : (ds : Choice) (Q : Question) → Distinct Q → without Q (sent ds Q) ≡ left ds Q
left_without [] Q d = keep_all (λ a. true) Q (λ a m. tt)
left_without (d ∷ ds) [] x = refl
left_without (zero ∷ ds) (a ∷ Q) x =
    cond_yes (not (mem_atom a (sent ds Q))) (a ∷ without Q (sent ds Q))
    (without Q (sent ds Q)) (not_member a (sent ds Q) (λ m. x.0 (sent_in ds Q a m)))
    ∙ ap (λ (A : Question). a ∷ A) (left_without ds Q x.1)
left_without (suc d ∷ ds) (a ∷ Q) x =
    cond_no (not (mem_atom a A)) (a ∷ without Q A) (without Q A)
    (subst T (sym (not_not (mem_atom a A))) (mem→mem_atom A (Memᴰ.head refl)))
    ∙ keep_same _ _ Q (λ b m. ap not (member_rest a b (sent ds Q) (other x.0 m)))
    ∙ left_without ds Q x.1
  where
    A : Question
    A = a ∷ sent ds Q

-- and the pairing's digits are the choice's
pub digits_back : (ds : Choice) (Q : Question) → Distinct Q → length ds ≡ length Q
    → digits (sent ds Q) (place_of ds Q) Q ≡ ds
digits_back [] [] x e = refl
digits_back [] (a ∷ Q) x e = absurd (omega arith)
digits_back (d ∷ ds) [] x e = absurd (omega arith)
digits_back (zero ∷ ds) (a ∷ Q) x e =
    ap₂ ◌∷◌
    (cond_no (mem_atom a (sent ds Q)) (suc (place_of (0 ∷ ds) (a ∷ Q) a)) 0
    (not_member a (sent ds Q) (λ m. x.0 (sent_in ds Q a m))))
    (map_same _ _ Q
    (λ b m. ap (λ (n : ℕ). cond (mem_atom b (sent ds Q)) (suc n) 0) (place_rest 0 ds a b Q (other x.0 m)))
    ∙ digits_back ds Q x.1 (omega arith))
digits_back (suc d ∷ ds) (a ∷ Q) x e =
    ap₂ ◌∷◌
    (cond_yes (mem_atom a (a ∷ sent ds Q)) (suc (place_of (suc d ∷ ds) (a ∷ Q) a)) 0
    (mem→mem_atom (a ∷ sent ds Q) (Memᴰ.head refl))
    ∙ ap suc (place_first (suc d) ds a Q))
    (map_same _ _ Q (λ b m.
    ap₂ (λ (c : Bool) (n : ℕ). cond c (suc n) 0)
    (member_rest a b (sent ds Q) (other x.0 m))
    (place_rest (suc d) ds a b Q (other x.0 m)))
    ∙ digits_back ds Q x.1 (omega arith))

-- the head atom on which a sent atom is put
pub record Hit (σ : Sub) (ds : Choice) (Q H : Question) (a : Atom) : Type 0 where
  pub atom : Atom
  pub at : get_elem? H (place_of ds Q a) ≡ some atom
  pub is_hit : atom ∈ hits ds Q H
  pub puts : PutsOn (Kernel σ) a atom

-- classes that put an atom on the head atom at a place
first_hit : (σ : Sub) (d : ℕ) (a : Atom) (H : Question) → HoldsPairs (Kernel σ) (to_head H d a)
    → (b : Atom) × (get_elem? H d ≡ some b) × PutsOn (Kernel σ) a b
first_hit σ d a H h =
    let b = head_there σ H d a h in
    (b.0, b.1, hold_puts σ a b.0 (head_at (Kernel σ) H d a b.0 b.1 h))

pushed_first : {A : Type 0} (o : Option A) (x : A) (l : List A) → o ≡ some x → x ∈ push o l
pushed_first none x l e = absurd (none≢some e)
pushed_first (some y) x l e = Memᴰ.head (sym (some-injective y x e))

pushed_rest : {A : Type 0} (o : Option A) (x : A) (l : List A) → x ∈ l → x ∈ push o l
pushed_rest none x l m = m
pushed_rest (some y) x l m = Memᴰ.tail m

pushed_cases : {A : Type 0} (o : Option A) (x : A) (l : List A) → x ∈ push o l → (o ≡ some x) ⊎ (x ∈ l)
pushed_cases none x l m = inr m
pushed_cases (some y) x l (Memᴰ.head e) = inl (ap some (sym e))
pushed_cases (some y) x l (Memᴰ.tail m) = inr m

pub hit_there : (σ : Sub) (ds : Choice) (Q H : Question) → Distinct Q → HoldsPairs (Kernel σ) (pairing ds Q H)
    → (a : Atom)
    → a ∈ sent ds Q → Hit σ ds Q H a
hit_there σ [] Q H x h a m = absurd (Memᴰ.not-nil m)
hit_there σ (d ∷ ds) [] H x h a m = absurd (Memᴰ.not-nil m)
hit_there σ (zero ∷ ds) (b ∷ Q) H x h a m =
    let r = hit_there σ ds Q H x.1 h a m in
    record {
      atom = r.atom;
      at = place_later H 0 ds b a Q x m ∙ r.at;
      is_hit = r.is_hit;
      puts = r.puts;
    }
hit_there σ (suc d ∷ ds) (b ∷ Q) H x h a m =
    go (Memᴰ.cases_cons m) (hit_there σ ds Q H x.1 (λ p n. h p (Memᴰ.append_right (to_head H d b) n)) a)
  where
    go : (a ≡ b) ⊎ (a ∈ sent ds Q) → (a ∈ sent ds Q → Hit σ ds Q H a) → Hit σ (suc d ∷ ds) (b ∷ Q) H a
    go (inl e) below =
        let f = first_hit σ d b H (λ p n. h p (Memᴰ.append_left (pairing ds Q H) n)) in
        record {
          atom = f.0;
          at =
              ap (λ (c : Atom). get_elem? H (place_of (suc d ∷ ds) (b ∷ Q) c)) e
              ∙ ap (get_elem? H) (place_first (suc d) ds b Q)
              ∙ f.1;
          is_hit = pushed_first (get_elem? H d) f.0 (hits ds Q H) f.1;
          puts = subst (λ (c : Atom). PutsOn (Kernel σ) c f.0) (sym e) f.2;
        }
    go (inr n) below =
        let r = below n in
        record {
          atom = r.atom;
          at = place_later H (suc d) ds b a Q x n ∙ r.at;
          is_hit = pushed_rest (get_elem? H d) r.atom (hits ds Q H) r.is_hit;
          puts = r.puts;
        }

-- each head atom that is hit is hit by a sent atom
pub record HitBy (σ : Sub) (ds : Choice) (Q H : Question) (b : Atom) : Type 0 where
  pub atom : Atom
  pub is_sent : atom ∈ sent ds Q
  pub within : b ∈ H
  pub puts : PutsOn (Kernel σ) atom b

pub hit_by : (σ : Sub) (ds : Choice) (Q H : Question) → HoldsPairs (Kernel σ) (pairing ds Q H) → (b : Atom)
    → b ∈ hits ds Q H → HitBy σ ds Q H b
hit_by σ [] Q H h b m = absurd (Memᴰ.not-nil m)
hit_by σ (d ∷ ds) [] H h b m = absurd (Memᴰ.not-nil m)
hit_by σ (zero ∷ ds) (a ∷ Q) H h b m =
    let r = hit_by σ ds Q H h b m in
    record { atom = r.atom; is_sent = r.is_sent; within = r.within; puts = r.puts }
hit_by σ (suc d ∷ ds) (a ∷ Q) H h b m =
    go (pushed_cases (get_elem? H d) b (hits ds Q H) m)
    (hit_by σ ds Q H (λ p n. h p (Memᴰ.append_right (to_head H d a) n)) b)
  where
    go : (get_elem? H d ≡ some b) ⊎ (b ∈ hits ds Q H) → (b ∈ hits ds Q H → HitBy σ ds Q H b)
        → HitBy σ (suc d ∷ ds) (a ∷ Q) H b
    go (inl e) below =
        record {
          atom = a;
          is_sent = Memᴰ.head refl;
          within = at_in H d b e;
          puts =
              hold_puts σ a b
              (head_at (Kernel σ) H d a b e (λ p n. h p (Memᴰ.append_left (pairing ds Q H) n)));
        }
    go (inr n) below =
        let r = below n in
        record { atom = r.atom; is_sent = Memᴰ.tail r.is_sent; within = r.within; puts = r.puts }

-- whatever puts each sent atom on its head atom holds the choice's pairs
pub puts_pairing : (E : Term → Term → Type 0) → Equivalence E → (σ : Sub) (ds : Choice) (Q H : Question)
    → Distinct Q → HoldsPairs (Kernel σ) (pairing ds Q H)
    → ((a b : Atom) → a ∈ sent ds Q → get_elem? H (place_of ds Q a) ≡ some b → PutsOn E a b)
    → HoldsPairs E (pairing ds Q H)
puts_pairing E eq σ [] Q H x h f = λ p m. absurd (Memᴰ.not-nil m)
puts_pairing E eq σ (d ∷ ds) [] H x h f = λ p m. absurd (Memᴰ.not-nil m)
puts_pairing E eq σ (zero ∷ ds) (a ∷ Q) H x h f =
    puts_pairing E eq σ ds Q H x.1 h (λ b c m e. f b c m (place_later H 0 ds a b Q x m ∙ e))
puts_pairing E eq σ (suc d ∷ ds) (a ∷ Q) H x h f =
    holds_append E (to_head H d a) (pairing ds Q H) here
    (puts_pairing E eq σ ds Q H x.1 (λ p n. h p (Memᴰ.append_right (to_head H d a) n))
    (λ b c m e.
    f b c (Memᴰ.tail m)
    (place_later H (suc d) ds a b Q x m ∙ e)))
  where
    b : (b : Atom) × (get_elem? H d ≡ some b) × PutsOn (Kernel σ) a b
    b = first_hit σ d a H (λ p n. h p (Memᴰ.append_left (pairing ds Q H) n))

    here : HoldsPairs E (to_head H d a)
    here =
        at_head E H d a b.0 b.1
        (puts_hold a b.0 eq
        (f a b.0 (Memᴰ.head refl) (ap (get_elem? H) (place_first (suc d) ds a Q) ∙ b.1)))
