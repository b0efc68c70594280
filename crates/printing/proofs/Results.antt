-- Laws of what is printed for a number, a place and an output. Assumes nothing.
use mathlib.Core.Path.{◌≡◌, refl, sym, ◌∙◌, ap, ap₂, subst}
use mathlib.Core.List.{List, ◌++◌}
use Prim.Native.Nat.{ℕ, zero, suc, ◌+◌}
use lib.ListN.{length, length-append}
use Rattle.covering.specs.Lists.{gather}
use Rattle.covering.specs.Term.{Question}
use Rattle.covering.specs.Record.{new_places}
use Rattle.reading.specs.Word.{word}
use Rattle.exploration.specs.Union.{members_from}
use Rattle.exploration.proofs.UnionBytes.{members_of_lem, members_count}
use Rattle.exploration.specs.Standing.{WrittenAt}
use Rattle.printing.specs.Printed.{ascii, member_line, line, printed}
use Rattle.printing.specs.Printable.{result_in, UnionStands}

-- the header's words that are read
pub record Words (W : List ℕ) (m e f : ℕ) : Type 0 where
  pub members : m ≡ word W 0
  pub explored : e ≡ word W 2
  pub first : f ≡ word W 4

module _ (answers number place : ℕ) (W : List ℕ) where
  pub refusal_text : (number ≡ 0 → ⊥)
      → printed (result_in answers number place W) ≡ line (ascii "refused ") number (ascii " at ") place
  refusal_text h = go number h
    where
      go : (n : ℕ) → (n ≡ 0 → ⊥) → printed (result_in answers n place W) ≡ line (ascii "refused ") n (ascii " at ") place
      go zero h = absurd (h refl)
      go (suc n) h = refl

  module _ {m e f : ℕ} (h : Words W m e f) (complete : number ≡ 0) where
    pub union_text : printed (result_in answers number place W)
        ≡ line (ascii "members ") m (ascii " explored ") e ++ gather member_line (members_from new_places answers W f m)
    union_text =
        ap (λ (n : ℕ). printed (result_in answers n place W)) complete
        ∙ ap
        (λ (U : List Question).
        line (ascii "members ") (length U) (ascii " explored ") (word W 2) ++ gather member_line U) (members_of_lem new_places answers W)
        ∙ ap (λ (n : ℕ). line (ascii "members ") n (ascii " explored ") (word W 2) ++ lines) count
        ∙ ap₂ (λ (n : ℕ) (l : List ℕ). line (ascii "members ") m (ascii " explored ") n ++ l) (sym h.explored)
        (ap₂ (λ (i n : ℕ). gather member_line (members_from new_places answers W i n)) (sym h.first) (sym h.members))
      where
        lines : List ℕ
        lines = gather member_line (members_from new_places answers W (word W 4) (word W 0))

        count : length (members_from new_places answers W (word W 4) (word W 0)) ≡ m
        count = members_count new_places answers W (word W 4) (word W 0) ∙ sym h.members

    pub union_length : length (printed (result_in answers number place W))
        ≡ length (line (ascii "members ") m (ascii " explored ") e) + length (gather member_line (members_from new_places answers W f m))
    union_length =
        ap length union_text
        ∙ length-append (line (ascii "members ") m (ascii " explored ") e) (gather member_line (members_from new_places answers W f m))

-- the members stand where the header says
pub stands_there : {answers : ℕ} {W : List ℕ} {m e f : ℕ} → Words W m e f → UnionStands answers W
    → WrittenAt new_places answers W f m
stands_there {answers} {W} {m} h s =
    subst (λ (i : ℕ). WrittenAt new_places answers W i m) (sym h.first)
    (subst (WrittenAt new_places answers W (word W 4)) (sym h.members) s.members)
