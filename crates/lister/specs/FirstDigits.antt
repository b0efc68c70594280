-- The first digits of a choice, and what they settle of every choice that has them, as the code holds it.
use Rattle.std.specs.Prelude.{◌≡◌, Bool, true, not, cond, List, [], ◌∷◌, ◌++◌, ℕ, ◌≤◌, eqb, leb, length, take, drop, Some, None}
use Rattle.std.specs.Prelude.{Option as Answer}
use Rattle.std.proofs.Math.Option.{Option, none, some}
use Rattle.covering.specs.Lists.{◌∈◌, bind, keep, any}
use Rattle.covering.specs.Term.{Question, var}
use Rattle.covering.specs.Record.{stored, atom_at}
use Rattle.covering.specs.Buffer.{AtomIn}
use Rattle.covering.specs.Rule.{Rule}
use Rattle.book.specs.declared.Parts.{Parts}
use Rattle.unification.specs.Classes.{unify}
use Rattle.unification.specs.Choice.{Choice, number, choices, left, pairing}
use Rattle.unification.specs.Step.{move, rewriting}
use Rattle.unify.specs.InBytes.{in_book, rule_of, classes_of, merged}
use Rattle.unify.specs.Table.{unify_table}
use Rattle.lister.specs.Listing.{RuleIn, ClassesFit}

-- the atoms of Q with the relation of no atom of H, which no choice sends there
abbrev pub unmet : Question → Question → Question
unmet H Q = keep (λ a. not (any (λ b. eqb a.rel b.rel) H)) Q

-- the atoms of Q that the first p digits of ds leave, and those after them that no head atom can meet
abbrev pub surely_left : Rule → Question → ℕ → Choice → Question
surely_left r Q p ds = left (take p ds) (take p Q) ++ unmet r.head (drop p Q)

-- these and then the body, each class of the digits replaced by what stands for it; none where the digits cannot be sent,
-- or where more than eight atoms are left, as no choice leaves that sends one
abbrev pub settled : ℕ → Rule → Question → ℕ → Choice → Option Question
settled k r Q p ds =
    bind (unify (pairing (take p ds) (take p Q) (move k r).head) var)
    (λ σ. cond (leb (length (surely_left r Q p ds)) 8) (some (rewriting σ (surely_left r Q p ds) (move k r))) none)

-- how the code holds it
abbrev pub settled_of : Option Question → Answer Question
settled_of none = None
settled_of (some X) = Some X

-- what the first p digits of the choice with number c settle of the question Q
pub record PrefixIs (r : Rule) (Q : Question) (c p : ℕ) (x : Answer Question) : Type 0 where
  pub choice : Choice
  pub among : choice ∈ choices (length r.head) (length Q)
  pub place : number (length r.head) choice ≡ c
  pub is : x ≡ settled_of (settled 48 r Q p choice)

-- what is asked for one digit more: a sound atom at i, at most eight left so far, the classes so far
pub record DigitFor (Q B : List ℕ) (p : Parts) (i d : ℕ) (A : Question) (table : List ℕ) : Type 0 where
  pub atom : AtomIn in_book Q i
  pub rule : RuleIn B p
  pub few : length A ≤ 8
  pub size : length table ≡ 96
  pub classes : ClassesFit table
  pub small : d ≤ p.heads

-- the atoms left and the classes, and whether there are any, with one digit more
pub record DigitPut (Q B : List ℕ) (p : Parts) (i d : ℕ) (A : Question) (table : List ℕ) (ok : Bool) (A' : Question)
    (table' : List ℕ) : Type 0 where
  pub leaves : A' ≡ A ++ left (d ∷ []) (atom_at stored Q i ∷ [])
  pub meets : merged ok table'
      ≡ unify_table (pairing (d ∷ []) (atom_at stored Q i ∷ []) (move 48 (rule_of B p)).head) (classes_of table)
  pub classes : ok ≡ true → ClassesFit table'
