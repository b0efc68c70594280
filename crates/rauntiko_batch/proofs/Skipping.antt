-- Bytes that are read for nothing. Assumes nothing.
use Rattle.std.proofs.Common.{◌≡◌, ℕ, ◌+◌, ◌≤◌, List, None, Some, true, arith, length, take, drop, ap, ◌∙◌, subst, length-drop}
use Rattle.std.specs.declared.option.Option.{Option}
use Rattle.std.proofs.lemmas.List.{drop-drop, length-take}
use Rattle.input.specs.Filled.{Fills}
use Rattle.rauntiko_batch.specs.Batch.{Skips}

-- the reader's bytes, where they are known
pub fills_of : (b c : Option (List ℕ)) (room : ℕ) (read xs : List ℕ) → b ≡ Some xs → Fills room b c read
    → (read ≡ take room xs) × (c ≡ Some (drop room xs))
fills_of b c room read xs e f = subst (λ o. Fills room o c read) e f

-- as many as were asked for
pub skip_more : (a b c : Option (List ℕ)) (done step room : ℕ) (read : List ℕ) → Skips done a b true → Fills room b c
    read → room ≡ step → step ≤ length read → Skips (done + step) a c true
skip_more None b c done step room read s f all full = tt
skip_more (Some xs) b c done step room read s f all full =
    let g = fills_of b c room read (drop done xs) s.1 f in
    let long : step ≤ length (drop done xs) = omega (arith, full, ap length g.0, all, length-take room (drop done xs)) in (
      omega (arith, s.0, long, length-drop done xs),
      g.1 ∙ ap (λ (l : List ℕ). Some l)
          (ap (λ r. drop r (drop done xs)) all ∙ drop-drop step done xs),
    )
