-- What a function tells of a book determines its result: two results with one number and one place are the same.
-- Assumes nothing.
use Rattle.std.proofs.Common.{◌≡◌, ℕ, ◌<◌, [], ◌∷◌, get_or, Result, Ok, Err, refl, sym, ◌∙◌, ap, ap₂, arith}
use Rattle.reading.specs.declared.Reason.{Reason}
use Rattle.reading.specs.declared.Reason.TheVariants.{ShortOutput, ShortBook, OutsideTable, WrongOffset, WrongRelation, WrongRule}
use Rattle.reading.specs.declared.Reason.TheVariants.{WrongByte, TooLong, NoRoom, NoneLeft, LooseAnswer, NoOldForm}
use Rattle.reading.specs.declared.Refused.{Refused}
use Rattle.reading.specs.Refusal.{Refusal}
use Rattle.reading.specs.Told.{number_of, judged, number_told, place_told}

-- the reason that has a number
abbrev reason_of : ℕ → Reason
reason_of n = get_or (ShortOutput ∷ ShortOutput ∷ ShortBook ∷ OutsideTable ∷ WrongOffset ∷ WrongRelation ∷ WrongRule ∷ WrongByte ∷ TooLong ∷ NoRoom ∷ NoneLeft ∷ LooseAnswer ∷ []) n NoOldForm

reason_back : (r : Reason) → reason_of (number_of r) ≡ r
reason_back ShortOutput = refl
reason_back ShortBook = refl
reason_back OutsideTable = refl
reason_back WrongOffset = refl
reason_back WrongRelation = refl
reason_back WrongRule = refl
reason_back WrongByte = refl
reason_back TooLong = refl
reason_back NoRoom = refl
reason_back NoneLeft = refl
reason_back LooseAnswer = refl
reason_back NoOldForm = refl

-- "0 means complete": every reason has another number, and no two have the same
pub some_number : (r : Reason) → 0 < number_of r
some_number ShortOutput = omega arith
some_number ShortBook = omega arith
some_number OutsideTable = omega arith
some_number WrongOffset = omega arith
some_number WrongRelation = omega arith
some_number WrongRule = omega arith
some_number WrongByte = omega arith
some_number TooLong = omega arith
some_number NoRoom = omega arith
some_number NoneLeft = omega arith
some_number LooseAnswer = omega arith
some_number NoOldForm = omega arith

pub number_once : (r t : Reason) → number_of r ≡ number_of t → r ≡ t
number_once r t e = sym (reason_back r) ∙ ap reason_of e ∙ reason_back t

refused_once : (r t : Refused) → number_of r.reason ≡ number_of t.reason → r.place ≡ t.place → r ≡ t
refused_once r t e d =
    ap₂ (λ (a : Reason) (p : ℕ). let x : Refused = record { reason = a; place = p } in x) (number_once r.reason t.reason e) d

pub judged_once : (r t : Result Unit Refused) → judged r ≡ judged t → r ≡ t
judged_once (Ok _) (Ok _) e = refl
judged_once (Ok _) (Err t) e = let p = some_number t.reason in absurd (omega (arith, ap (λ (x : Refusal). x.number) e))
judged_once (Err r) (Ok _) e = let p = some_number r.reason in absurd (omega (arith, ap (λ (x : Refusal). x.number) e))
judged_once (Err r) (Err t) e =
    ap Err (refused_once r t (ap (λ (x : Refusal). x.number) e) (ap (λ (x : Refusal). x.place) e))

pub told_once : (r t : Result ℕ Refused) → number_told r ≡ number_told t → place_told r ≡ place_told t → r ≡ t
told_once (Ok n) (Ok m) e d = ap Ok d
told_once (Ok n) (Err t) e d = let p = some_number t.reason in absurd (omega arith)
told_once (Err r) (Ok n) e d = let p = some_number r.reason in absurd (omega arith)
told_once (Err r) (Err t) e d = ap Err (refused_once r t e d)
