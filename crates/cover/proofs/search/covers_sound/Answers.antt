-- `cover::search::covers_sound` meets its contract: where first's relations are not among second's it does not cover;
-- else a sound record counts all its atoms, and the search starts at the first, with no variable placed.
use borrow.Author.Rules.{rules}
use mathlib.Core.Path.{◌≡◌, sym, ap, ap₂, ◌∙◌}
use lib.ListN.{length, replicate}
use Rattle.covering.specs.Search.{find_map, first_map, covers}
use Rattle.covering.specs.Record.{stored, question_of}
use Rattle.covering.specs.Buffer.{record_room}
use Rattle.covering.proofs.Within.{sound_in}
use Rattle.records.proofs.Among.{not_among}
use Rattle.records.proofs.Copied.{copy_sound, copy_same}
use Rattle.cover.specs.HeldMap.{part_of}
use Rattle.cover.proofs.Maps.{said_yes, part_nowhere}
use Rattle.cover.proofs.search.covers_sound.Goals as goal

pub returns-then-not-are_among : goal.returns-then-not-are_among
returns-then-not-are_among c =
    let among = sym c.are_among.ensures ∙ c.if-not-are_among.true in
    sym (not_among _ _ c.relations.ensures among)

pub atoms-requires : goal.atoms-requires
atoms-requires c = sound_in stored _ c.requires.0

pub place_next-requires : goal.place_next-requires
place_next-requires c =
    let held = copy_sound _ _ c.requires.1 c.copy_record-held.ensures in
    let room : length c.copy_record-held.result ≡ record_room = search rules in
    (c.atoms.ensures.sound, rw (← room) held.fits)

pub returns : goal.returns
unfolding covers first_map
returns c =
    let same = copy_same _ _ c.requires.1 c.copy_record-held.ensures in
    let F = c.args.first.now in
    said_yes _ _ _
    (c.place_next.ensures.finds
    ∙ ap (λ A. find_map A (question_of stored c.copy_record-held.result) (part_of (replicate 96 255)))
    c.atoms.ensures.atoms
    ∙ ap₂ (find_map (question_of stored F)) same (part_nowhere 96))
