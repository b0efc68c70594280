-- What is written is the copy, made of the front of what the reader had.
use Rattle.std.proofs.Common.{rules, ◌≡◌, length}
use Rattle.std.proofs.lemmas.Result.{on_ok_weaker}
use Rattle.input.specs.Looked.{looked_at}
use Rattle.copier.proofs.Told.{told_front}
use Rattle.copier.proofs.copy_to.Goals as goal

pub returns : goal.returns
returns g c =
    let room : length c.fill.new.into ≡ looked_at = search rules in
    on_ok_weaker c.write_copy.result
    (told_front g.F.Form.copies (g.R.Read.remaining c.args.reader.now) (g.R.Read.remaining c.fill.new.reader)
    (g.W.Write.contents c.args.out.now) (g.W.Write.contents c.write_copy.new.out) _ _ room (search rules) c.copy-copy.ensures.told
    c.in_ok-n.ensures.bytes)
    c.write_copy.ensures
