-- `forms::put::put_words` meets its contract. The loop's invariant: the words passed are put, two bytes each.
use native.Mathlib.Omega.{arith}
use mathlib.Core.Path.{◌≡◌, sym, ◌∙◌, ap}
use Rattle.std.proofs.Math.Seq.{take-length}
use Prim.Native.Nat.{ℕ}
use lib.ListN.{length, take}
use Rattle.covering.specs.Lists.{gather}
use Rattle.covering.proofs.Putting.{put_none, put_as, then, kept}
use Rattle.reading.specs.Word.{word_bytes}
use Rattle.forms.proofs.Steps.{word_more}
use Rattle.forms.proofs.put.put_words.Goals as goal

pub loop-word-init : goal.loop-word-init
loop-word-init c = (omega arith, put_none (omega arith))

pub put_word-at-requires : goal.put_word-at-requires
put_word-at-requires c =
    let l = c.loop-word in
    (c.requires.0 l.word-index, omega (arith, c.requires.1, kept l.invariant.1))

pub loop-word-preserved : goal.loop-word-preserved
loop-word-preserved c =
    let l = c.loop-word in
    let p = c.put_word-at.ensures in (
      omega (arith, p.ends),
      put_as (word_more c.args.words.now l.word-index (omega
          (arith, c.requires.0, c.loop-word-test.true)))
          (then l.invariant.1 p),
    )

pub shape_of-out : goal.shape_of-out
shape_of-out c = kept c.loop-word.invariant.1

pub returns : goal.returns
returns c =
    let l = c.loop-word in
    let a = c.args in
    let all : l.word-index ≡ length a.words.now = omega arith in
    put_as (ap (gather word_bytes) (sym (ap (λ (k : ℕ). take k a.words.now) all ∙ take-length a.words.now))) l.invariant.1
