-- The old form's copies are told as they are written.
use Rattle.copier.proofs.Numbered.{old_numbered}
use Rattle.copier.proofs.Told.{written_told, told_within}
use Rattle.copier.proofs.OldForm.copy.Goals as goal

pub returns : goal.returns
returns c =
    record {
      within = told_within _ (old_numbered _ _) _ _ _ _ c.to_old.ensures;
      told = written_told _ (old_numbered _ _) _ _ _ _ c.to_old.ensures;
    }
