-- A sound book holds its header and each of its rules, of which there are at most 32.
use Rattle.std.proofs.Common.{◌<◌, arith, ap}
use Rattle.reading.specs.Header.{rules}
use Rattle.reading.specs.declared.Header.{Header}
use Rattle.reading.proofs.SoundBook.{sound_long, sound_header, sound_rule}
use Rattle.book_examples.proofs.show_new.Goals as goal

pub read-h-requires : goal.read-h-requires
read-h-requires g c = sound_long _ c.requires.0

pub bounds-at-k : goal.bounds-at-k
bounds-at-k g c = omega (arith, ap (λ (h : Header). h.rules) c.read-h.ensures.is, (sound_header _ c.requires.0).few_rules)

pub bounds-at-n : goal.bounds-at-n
bounds-at-n g c = omega (arith, ap (λ (h : Header). h.rules) c.read-h.ensures.is, (sound_header _ c.requires.0).few_rules)

pub offset_bounds-at-k : goal.offset_bounds-at-k
offset_bounds-at-k g c = omega (arith, ap (λ (h : Header). h.rules) c.read-h.ensures.is, (sound_header _ c.requires.0).few_rules)

pub offset_bounds-at-n : goal.offset_bounds-at-n
offset_bounds-at-n g c = omega (arith, ap (λ (h : Header). h.rules) c.read-h.ensures.is, (sound_header _ c.requires.0).few_rules)

pub show_rule-requires : goal.show_rule-requires
show_rule-requires g c =
    let B = c.args.book.now in
    let k = c.loop-k.k in
    let few : k < rules B = omega (arith, ap (λ (h : Header). h.rules) c.read-h.ensures.is, c.loop-k-test.true) in
    (omega (arith, c.starts-at.ensures.starts k (omega arith), (sound_rule B c.requires.0 k few).ends, (sound_header B c.requires.0).ends), c.requires.1)
