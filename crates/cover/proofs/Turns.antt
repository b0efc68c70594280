-- Laws of one candidate: it is not met, it serves, or it does not serve and is taken back. One for each way through
-- `try_candidate`. Assumes nothing.
use mathlib.Core.Path.{◌≡◌, sym, ◌∙◌, ap, ap₂}
use mathlib.Core.Bool.{Bool, true, false}
use mathlib.Core.List.{List}
use mathlib.Core.Option.{Option, some}
use Prim.Native.Nat.{ℕ, ◌+◌}
use lib.Dec.{T}
use lib.ListN.{length, get_or}
use Rattle.covering.specs.Lists.{is_some}
use Rattle.covering.specs.Term.{Atom, Question}
use Rattle.covering.specs.Search.{Part, place_atom, place_terms, find_map}
use Rattle.covering.specs.Record.{stored, args_at, atom_at, used_first}
use Rattle.covering.proofs.Tests.{true→T}
use Rattle.cover.specs.Candidates.{placed_on}
use Rattle.cover.specs.HeldMap.{part_of, said, sent_to, HadBefore, taken_back, Searched}
use Rattle.cover.proofs.Maps.{atoms_meet}
use Rattle.cover.proofs.Sent.{back_whole, length_sent}
use Rattle.cover.proofs.Meeting.{not_some, atom_placed}
use Rattle.cover.proofs.SearchSteps.{on_placed, on_apart, found, not_found}

-- an atom of F can be placed on one of S, of its relation, exactly where its places, P, can be sent to that one's, Q
module _ (F S P Q m : List ℕ) (i k : ℕ) (x : args_at P 0 6 ≡ args_at F (i + 1) 6)
    (y : args_at Q 0 6 ≡ args_at S (k + 1) 6) where
  abbrev meets : Bool
  meets = is_some (place_atom (part_of m) (atom_at stored F i) (atom_at stored S k))

  pub as_places : {r : Bool} → get_or F i 0 ≡ get_or S k 0
      → r ≡ is_some (place_terms (part_of m) (args_at P 0 6) (args_at Q 0 6)) → meets ≡ r
  as_places e f = ap is_some (atoms_meet stored _ _ _ _ _ e ∙ sym (ap₂ (place_terms (part_of m)) x y)) ∙ sym f

  -- it is met, A is left after it, and the atoms left say r; B is all of the second question
  module _ (A B : Question) (size : length m ≡ 96) (sound : T (used_first stored P 0 6)) (e : meets ≡ true)
      (came gone : List ℕ) (r : Bool) (put : came ≡ sent_to m P Q 6)
      (s : Searched (find_map A B (part_of came)) came gone r) where
    abbrev on : Option Part
    on = placed_on (atom_at stored F i) A B (part_of m) (atom_at stored S k)

    rest_says : (b : Bool) → r ≡ b → on ≡ said b gone
    rest_says b q =
        on_placed _ A B (part_of m) _
        (atom_placed m F S P Q i k size sound x y (true→T _ e) ∙ ap (λ z. some (part_of z)) (sym put))
        ∙ sym s.finds
        ∙ ap (λ z. said z gone) q

    -- all are placed
    pub serves : r ≡ true → Searched on m gone true
    serves q = found on m gone (s.long ∙ ap length put ∙ length_sent m P Q 6) (sym (rest_says true q))

    -- they are not, and the atom is taken back
    pub taken_back_lem : (h back : List ℕ) → r ≡ false → HadBefore m P Q 6 h → back ≡ taken_back gone P h 6
        → Searched on m back false
    taken_back_lem h back q had b =
        let whole = b ∙ ap (λ z. taken_back z P h 6) (s.back q ∙ put) ∙ back_whole m P Q 6 h had in
        record { finds = sym (rest_says false q); back = λ t. whole; long = ap length whole }

-- the atom does not meet the candidate
pub not_met : (a b : Atom) (A B : Question) (m : List ℕ) → is_some (place_atom (part_of m) a b) ≡ false
    → Searched (placed_on a A B (part_of m) b) m m false
not_met a b A B m e = not_found _ m (on_apart _ A B (part_of m) _ (not_some _ e))
