-- How a question that a book's run takes up is rewritten: by the rules in book order, by each to exactly the published
-- rewritings that merge no more than their pairing needs, and any other published one is covered by one of them.
-- Assumes nothing.
use mathlib.Core.Path.{◌≡◌, subst}
use mathlib.Core.Logic.{◌↔◌}
use mathlib.Core.List.{List, map}
use lib.ListN.{length}
use Prim.Native.Nat.{ℕ}
use Rattle.covering.specs.Lists.{◌∈◌, gather, collect, keep}
use Rattle.covering.specs.Term.{Question}
use Rattle.covering.specs.Covers.{Covers}
use Rattle.covering.specs.Rule.{Rule}
use Rattle.covering.specs.Asking.{asking}
use Rattle.reading.specs.Verdict.{SoundBook}
use Rattle.reading.specs.Book.{book_of}
use Rattle.unification.specs.Step.{move, listed, label, step}
use Rattle.unification.specs.Published.{PieceUnifier, beta, Publishes}
use Rattle.unification.specs.Choice.{number, choices, some_sent}
use Rattle.unification.proofs.Collected.{gather_same}
use Rattle.unification.proofs.Listed.{listed_in, rewritings_listed, rewritings_out}
use Rattle.unification.proofs.Exactly.{exactly}
use Rattle.unification.proofs.Pieces.{piece_covered}
use Rattle.unification.proofs.AnswerRecord.{leading, listed_joined}
use Rattle.exploration.specs.Run.{apart, all_rewritings}
use Rattle.exploration.specs.Refusals.{Explores}
use Rattle.exploration.proofs.OfBook.{Member, member_below, taken_member}
use Rattle.reading.proofs.Fits.{rules_free}

pub rules_in_order : (rules : List Rule) (M : Question)
    → all_rewritings rules M ≡ gather (λ r. map (λ e. e.1) (listed apart r M)) rules
rules_in_order rules M = gather_same _ _ rules (λ r. rewritings_listed apart r M)

module _ (B : List ℕ) (s : SoundBook B) {M : Question} (x : Explores B M) where
  like_member : Member B M
  like_member = taken_member B s x.reaches

  pub published_exactly : (r : Rule) (n : ℕ) (X : Question) → ((n, X) ∈ listed apart r M) ↔ Publishes apart r M n X
  published_exactly r = exactly apart r M (member_below B s like_member) like_member.formed

  pub published_covered : (r : Rule) (μ : PieceUnifier M (move apart r))
      → (n : ℕ) × (P : Question) × ((n, P) ∈ listed apart r M) × Covers P (beta μ)
  published_covered r μ =
      let c = piece_covered apart r M (member_below B s like_member) μ in
      let m = rewritings_out c.1 in
      (m.0, c.0, listed_in m.1, c.2)

  -- the answer record is always left: the choices are those of the other atoms
  pub left_alone : (r : Rule) → r ∈ (book_of B).rules
      → listed apart r M
      ≡ collect
      (λ ds. label (number (length r.head) ds) (step apart r M (leading (asking M).answer ds)))
      (keep some_sent (choices (length r.head) (length (asking M).atoms)))
  left_alone r m =
      subst
      (λ (X : Question).
      listed apart r X
      ≡ collect
      (λ ds. label (number (length r.head) ds) (step apart r X (leading (asking M).answer ds)))
      (keep some_sent (choices (length r.head) (length (asking M).atoms))))
      like_member.shaped.is
      (listed_joined apart r (asking M) (rules_free B s r m).1)
