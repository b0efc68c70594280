-- `explore::whole_run::run_sound` meets its contract: complete, the members are put into the output.
use native.Mathlib.Omega.{arith}
use mathlib.Core.Path.{◌≡◌, sym, ◌∙◌, ap, subst}
use mathlib.Core.List.{List}
use Prim.Native.Nat.{ℕ}
use Rattle.std.proofs.lemmas.Result.{err_from_is_err_and}
use Rattle.reading.specs.declared.Header.{Header}
use Rattle.reading.specs.Header.{atom_places, HeaderRead}
use Rattle.reading.specs.Verdict.{SoundBook}
use Rattle.reading.proofs.Forms.{form_known}
use Rattle.reading.proofs.SoundBook.{sound_long, sound_header}
use Rattle.exploration.specs.Union.{first_at}
use Rattle.exploration.specs.Held.{Standing}
use Rattle.explore.proofs.Endings.{returns_stopped, have_answers, few_places, returns_complete}
use Rattle.explore.proofs.Running.{first_sound, first_short, first_alone}
use Rattle.explore.proofs.whole_run.run_sound.Goals as goal

-- the places of the book's atoms, as they were read
places_read : {B : List ℕ} {h : Header} → SoundBook B → HeaderRead B h → h.places ≡ atom_places B
places_read {B} sound r = ap (λ (x : Header). x.places) r.is ∙ (sound_header B sound).places_are

pub first_member-requires : goal.first_member-requires
first_member-requires c = (c.requires.1, c.requires.2)

pub of-members-requires : goal.of-members-requires
of-members-requires c =
    let W = c.args.wide.now in
    (first_sound W c.requires.1 _ c.first_member.ensures, first_short W c.requires.1 _ c.first_member.ensures)

pub explore_all-requires : goal.explore_all-requires
explore_all-requires c =
    (c.requires.1, c.requires.2, c.of-members.ensures ∙ first_alone c.args.wide.now c.requires.1 _ c.first_member.ensures)

pub read-places-requires : goal.read-places-requires
read-places-requires c = sound_long _ c.requires.0

pub put_union-end-requires : goal.put_union-end-requires
put_union-end-requires c =
    let B = c.args.book.now in
    let x = c.in_ok-explored.ensures in
    let st = c.bytes.ensures in
    let n = c.count.ensures.0 in
    let p = places_read c.requires.0 c.read-places.ensures in (
      subst (Standing c.bytes.result.now first_at) (sym n) st.standing,
      have_answers B c.args.wide.now c.args.out.now c.requires.4 c.requires.0 c.requires.3 c.explore_all.new.members _ x st _
          c.answer_records-answers.ensures _ n,
      few_places B c.args.wide.now c.args.out.now c.requires.4 c.requires.0 c.requires.3 c.explore_all.new.members _ x st _ p _ n,
      omega (arith, p, (form_known B).few_places),
      omega (arith, st.size),
      omega (arith, st.size, c.requires.4),
      omega (arith, st.size),
      omega (arith, c.count.ensures.1),
      omega (arith, x.1),
    )

pub returns : goal.returns
returns c =
    returns_complete c.args.book.now c.args.wide.now c.args.out.now c.requires.4 c.requires.0 c.requires.3 c.explore_all.new.members _
    c.in_ok-explored.ensures c.bytes.ensures _ _ _ c.answer_records-answers.ensures
    (places_read c.requires.0 c.read-places.ensures) c.count.ensures.0 _ _ c.put_union-end.ensures

pub returns-in_err-explored : goal.returns-in_err-explored
returns-in_err-explored c =
    let p = err_from_is_err_and c.from_residual.result c.from_residual.ensures.1 in
    rw (p.1, p.2)
    (returns_stopped c.args.book.now c.args.wide.now c.args.out.now c.requires.4 c.requires.0 c.requires.3
    c.explore_all.new.members _ c.in_err-explored.ensures)
