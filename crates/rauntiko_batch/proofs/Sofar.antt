-- A batch that is answered as far as some number of turns goes. Assumes nothing.
use Rattle.std.proofs.Common.{◌≡◌, ℕ, ◌+◌, ◌*◌, ◌^◌, ◌<◌, ◌≤◌, List, [], ◌++◌, None, Some, IfSome, true, false, arith, length, refl, sym, subst, append-nil, append_assoc, length-drop}
use Rattle.std.specs.declared.option.Option.{Option}
use Rattle.std.specs.Io.KnownBytes.{Appends}
use Rattle.std.proofs.KnownBytes.{Appends-nil, Appends-trans, Appends-kept}
use Rattle.rauntiko_batch.specs.Batch.{AnswersFirst, Answered, first_size, after_first, first_answer}

-- what was written are the answers to the books before those that the reader has left, each of four bytes and more
abbrev pub Sofar : Option (List ℕ) → Option (List ℕ) → Option (List ℕ) → Option (List ℕ) → ℕ → Type 0
Sofar a b old new turns = IfSome a (λ xs. (rest : List ℕ) × (ys : List ℕ) × (b ≡ Some rest) × Appends old new ys
    × ((zs : List ℕ) → Answered rest zs → Answered xs (ys ++ zs)) × (4 * turns + length rest ≤ length xs))

-- the batch is answered
abbrev pub All : Option (List ℕ) → Option (List ℕ) → Option (List ℕ) → Type 0
All a old new = IfSome a (λ xs. length xs < 2 ^ 64 → (ys : List ℕ) × Answered xs ys × Appends old new ys)

pub sofar_none : (a old : Option (List ℕ)) → Sofar a a old old 0
sofar_none None old = tt
sofar_none (Some xs) old = (xs, [], refl, Appends-nil old, λ zs z. z, omega arith)

pub sofar_more : (a b c old mid new : Option (List ℕ)) (turns : ℕ) → Sofar a b old mid turns → AnswersFirst b c mid
    new true → Sofar a c old new (turns + 1)
sofar_more None b c old mid new turns s f = tt
sofar_more (Some xs) b c old mid new turns s f =
    let rest = s.0 in
    let ys = s.1 in
    let g : AnswersFirst (Some rest) c mid new true = subst (λ o. AnswersFirst o c mid new true) s.2 f in
    let then : (zs : List ℕ) → Answered (after_first rest) zs → Answered xs ((ys ++ first_answer rest) ++ zs) =
    λ zs z. subst (Answered xs) (sym (append_assoc ys (first_answer rest) zs))
    (s.4 (first_answer rest ++ zs) (Answered.first rest zs g.0 z)) in (
      after_first rest,
      ys ++ first_answer rest,
      g.1,
      Appends-trans old mid new ys (first_answer rest) s.3 g.2,
      then,
      omega (arith, s.5, g.0, length-drop (4 + first_size rest) rest),
    )

pub sofar_all : (a b c old mid new : Option (List ℕ)) (turns : ℕ) → Sofar a b old mid turns → AnswersFirst b c mid new false → All a old new
sofar_all None b c old mid new turns s f = tt
sofar_all (Some xs) b c old mid new turns s f =
    let rest = s.0 in
    let ys = s.1 in
    let g : AnswersFirst (Some rest) c mid new false = subst (λ o. AnswersFirst o c mid new false) s.2 f in
    λ few. (ys, subst (Answered xs) (append-nil ys) (s.4 [] (Answered.none rest g.0)), Appends-kept old mid new ys s.3 g.1)
