-- A book whose relations are at 20 has a tenth word. Assumes nothing.
use Rattle.std.proofs.Common.{◌≡◌, ℕ, List, true, false, sym, ◌∙◌, ap, arith}
use Rattle.std.proofs.Common.{◌⊎◌, inl, inr}
use Rattle.covering.proofs.Tests.{either}
use Rattle.reading.specs.Header.{BookForm, form_for, relations_at, is_new, new, old}
use Rattle.reading.proofs.Forms.{is_new_lem, is_old, new_header}
use Rattle.book.proofs.places.Goals as goal

module _ (B : List ℕ) {t : ℕ} (is : t ≡ relations_at B) where
  says_new : new ≡ form_for t → is_new B ≡ true
  says_new e = go (either (is_new B))
    where
      go : (is_new B ≡ true) ⊎ (is_new B ≡ false) → is_new B ≡ true
      go (inl h) = h
      go (inr h) =
          let d : new ≡ old = e ∙ ap form_for is ∙ is_old B h in absurd (omega (arith, ap (λ (f : BookForm). f.header) d))

  not_new : old ≡ form_for t → is_new B ≡ false
  not_new e = go (either (is_new B))
    where
      go : (is_new B ≡ true) ⊎ (is_new B ≡ false) → is_new B ≡ false
      go (inl h) =
          let d : old ≡ new = e ∙ ap form_for is ∙ is_new_lem B h in absurd (omega (arith, ap (λ (f : BookForm). f.header) d))
      go (inr h) = h

pub word-requires : goal.word-requires
word-requires c =
    let B = c.args.book.now in
    omega (arith, new_header B (is_new_lem B (says_new B c.requires.0 c.in-New.ensures)))

pub returns-in-New : goal.returns-in-New
returns-in-New c = c.word.ensures.0 ∙ sym (rw (says_new c.args.book.now c.requires.0 c.in-New.ensures))

pub returns-in-Old : goal.returns-in-Old
returns-in-Old c = sym (rw (not_new c.args.book.now c.requires.0 c.in-Old.ensures))
