-- 01's starred examples that are one-step rewritings, 4 to 9: a rule, a question, and the list of the question's
-- rewritings with their choices' numbers; `exploration` takes them into the one list of all that are starred. Then
-- some from the sources, and readings of ours. Relations are numbered in order of appearance in an example, x, y, z
-- are the rule's variables 0, 1, 2.
use Rattle.std.specs.Prelude.{List, [], ◌∷◌, ℕ}
use Rattle.covering.specs.Term.{Term, var, con, Atom, Question}
use Rattle.covering.specs.Asking.{joined}
use Rattle.covering.specs.Rule.{Rule}

pub record StepExample : Type 0 where
  pub rule : Rule
  pub question : Question
  pub listing : List (ℕ × Question)

abbrev pub at1 : ℕ → Term → Atom
at1 p t = record { rel = p; args = t ∷ [] }

abbrev pub at2 : ℕ → Term → Term → Atom
at2 p t u = record { rel = p; args = t ∷ u ∷ [] }

abbrev pub v0 : Term
v0 = var 0

abbrev pub v1 : Term
v1 = var 1

abbrev pub v2 : Term
v2 = var 2

-- "person(x) to parent(x,y); question parent(v0,c0): no valid choice."
abbrev pub example4 : StepExample
example4 =
    record {
      rule = record { body = at1 0 v0 ∷ []; head = at2 1 v0 v1 ∷ [] };
      question = at2 1 v0 (con 0) ∷ [];
      listing = [];
    }

-- "The same rule; question parent(v0,v1) dentist(v1): none."
abbrev pub example5 : StepExample
example5 =
    record {
      rule = record { body = at1 0 v0 ∷ []; head = at2 1 v0 v1 ∷ [] };
      question = at2 1 v0 v1 ∷ at1 2 v1 ∷ [];
      listing = [];
    }

-- "b(x) to r(x,y) r(y,z) r(z,x); question r(v0,v1) r(v1,v0): none."
abbrev pub example6 : StepExample
example6 =
    record {
      rule = record { body = at1 0 v0 ∷ []; head = at2 1 v0 v1 ∷ at2 1 v1 v2 ∷ at2 1 v2 v0 ∷ [] };
      question = at2 1 v0 v1 ∷ at2 1 v1 v0 ∷ [];
      listing = [];
    }

-- "b(x) to r(x,y) r(y,x); question r(v0,v1) r(v1,v2) r(v2,v0): three choices, each r(v0,v0) b(v0)."
-- They are 0 1 2, 1 2 0 and 2 0 1 in base 3.
abbrev pub example7 : StepExample
example7 =
    let X = at2 1 v0 v0 ∷ at1 0 v0 ∷ [] in
    record {
      rule = record { body = at1 0 v0 ∷ []; head = at2 1 v0 v1 ∷ at2 1 v1 v0 ∷ [] };
      question = at2 1 v0 v1 ∷ at2 1 v1 v2 ∷ at2 1 v2 v0 ∷ [];
      listing = (5, X) ∷ (15, X) ∷ (19, X) ∷ [];
    }

-- "twin(x,y) to m(z,x) m(z,y); question m(v0,v1) m(v0,v2): four choices, each twin(v0,v1)."
-- They are 1 1, 1 2, 2 1 and 2 2 in base 3.
abbrev pub example8 : StepExample
example8 =
    let X = at2 0 v0 v1 ∷ [] in
    record {
      rule = record { body = at2 0 v0 v1 ∷ []; head = at2 1 v2 v0 ∷ at2 1 v2 v1 ∷ [] };
      question = at2 1 v0 v1 ∷ at2 1 v0 v2 ∷ [];
      listing = (4, X) ∷ (5, X) ∷ (7, X) ∷ (8, X) ∷ [];
    }

-- "s(x) to p(x,x); question p(v0,v1) p(v1,v0): members are the question and s(v0)." One piece at a time would give
-- "the step p(v0,v0) s(v0)" alone.
abbrev pub example9 : StepExample
example9 =
    let X = at2 1 v0 v0 ∷ at1 0 v0 ∷ [] in
    record {
      rule = record { body = at1 0 v0 ∷ []; head = at2 1 v0 v0 ∷ [] };
      question = at2 1 v0 v1 ∷ at2 1 v1 v0 ∷ [];
      listing = (1, X) ∷ (2, X) ∷ (3, at1 0 v0 ∷ []) ∷ [];
    }

unfoldable pub starred : List StepExample
starred = example4 ∷ example5 ∷ example6 ∷ example7 ∷ example8 ∷ example9 ∷ []

abbrev v3 : Term
v3 = var 3

abbrev v4 : Term
v4 = var 4

-- document 000, Example 1: "The corresponding rewriting of Q is q(x) ∧ r(x, x)."
abbrev pub source1 : StepExample
source1 =
    record {
      rule = record { body = at1 0 v0 ∷ []; head = at2 1 v0 v1 ∷ [] };
      question = at2 1 v0 v1 ∷ at2 1 v2 v1 ∷ at2 2 v0 v2 ∷ [];
      listing = (6, at2 2 v0 v0 ∷ at1 0 v0 ∷ []) ∷ [];
    }

-- document 000, Example 3: "two single-piece unifiers of Q with R", and "a query equivalent to r(x, x), p1(x),
-- p2(x), b(x), which could be generated from Q with a two-piece unifier". Two equal atoms r(x, x) are one.
abbrev pub source3 : StepExample
source3 =
    record {
      rule = record { body = at1 0 v0 ∷ []; head = at2 1 v0 v1 ∷ [] };
      question =
          at2 2 v0 v1 ∷ at2 2 v1 v2 ∷ at2 1 v0 v3 ∷ at2 1 v1 v3 ∷ at2 1 v1 v4 ∷ at2 1 v2 v4 ∷ at1 3 v0 ∷ at1 4 v2 ∷ [];
      listing =
          (12, at2 2 v0 v1 ∷ at2 2 v1 v1 ∷ at2 1 v0 v2 ∷ at2 1 v1 v2 ∷ at1 3 v0 ∷ at1 4 v1 ∷ at1 0 v1 ∷ [])
          ∷ (48, at2 2 v0 v0 ∷ at2 2 v0 v1 ∷ at2 1 v0 v2 ∷ at2 1 v1 v2 ∷ at1 3 v0 ∷ at1 4 v1 ∷ at1 0 v0 ∷ [])
          ∷ (60, at2 2 v0 v0 ∷ at1 3 v0 ∷ at1 4 v0 ∷ at1 0 v0 ∷ [])
          ∷ [];
    }

-- document 002: "twin(w,t) ∧ Female(w) ∧ Male(t)" and "twin(w,y) ∧ Female(w) ∧ Male(w)"; and the two with twins
-- turned
abbrev pub source_twins : StepExample
source_twins =
    record {
      rule = record { body = at2 0 v0 v1 ∷ []; head = at2 1 v2 v0 ∷ at2 1 v2 v1 ∷ [] };
      question = at2 1 v0 v1 ∷ at2 1 v0 v2 ∷ at1 2 v1 ∷ at1 3 v2 ∷ [];
      listing =
          (36, at1 2 v0 ∷ at1 3 v0 ∷ at2 0 v0 v1 ∷ [])
          ∷ (45, at1 2 v0 ∷ at1 3 v1 ∷ at2 0 v0 v1 ∷ [])
          ∷ (63, at1 2 v0 ∷ at1 3 v1 ∷ at2 0 v1 v0 ∷ [])
          ∷ (72, at1 2 v0 ∷ at1 3 v0 ∷ at2 0 v1 v0 ∷ [])
          ∷ [];
    }

-- "second existential variable": b(x) to r(y,z); question r(v0,v0)
abbrev pub two_unknowns : StepExample
two_unknowns =
    record {
      rule = record { body = at1 0 v0 ∷ []; head = at2 1 v1 v2 ∷ [] };
      question = at2 1 v0 v0 ∷ [];
      listing = [];
    }

-- equal head atoms are separate digits: b(x) to p(x) p(x); question p(v0)
abbrev pub equal_heads : StepExample
equal_heads =
    record {
      rule = record { body = at1 0 v0 ∷ []; head = at1 1 v0 ∷ at1 1 v0 ∷ [] };
      question = at1 1 v0 ∷ [];
      listing = (1, at1 0 v0 ∷ []) ∷ (2, at1 0 v0 ∷ []) ∷ [];
    }

unfoldable pub from_sources : List StepExample
from_sources = source1 ∷ source3 ∷ source_twins ∷ two_unknowns ∷ equal_heads ∷ []

-- "relations must agree": b(x) to p(x); question q(v0)
abbrev pub other_relation : StepExample
other_relation =
    record {
      rule = record { body = at1 0 v0 ∷ []; head = at1 1 v0 ∷ [] };
      question = at1 2 v0 ∷ [];
      listing = [];
    }

-- With answer places (02, a) the answer record is always left and is not counted. q(x) to p(x); question a(v0) p(v0):
-- choice 1 gives a(v0) q(v0).
abbrev who : StepExample
who =
    record {
      rule = record { body = at1 1 v0 ∷ []; head = at1 0 v0 ∷ [] };
      question = joined (record { answer = v0 ∷ []; atoms = at1 0 v0 ∷ [] });
      listing = (1, joined (record { answer = v0 ∷ []; atoms = at1 1 v0 ∷ [] })) ∷ [];
    }

-- person(x) to parent(x,y); question a(v0) parent(v0,v1): choice 1. Question a(v1) parent(v0,v1): none, since an answer
-- variable never joins an unknown's class.
abbrev parents : StepExample
parents =
    record {
      rule = example4.rule;
      question = joined (record { answer = v0 ∷ []; atoms = at2 1 v0 v1 ∷ [] });
      listing = (1, joined (record { answer = v0 ∷ []; atoms = at1 0 v0 ∷ [] })) ∷ [];
    }

abbrev whose : StepExample
whose =
    record {
      rule = example4.rule;
      question = joined (record { answer = v1 ∷ []; atoms = at2 1 v0 v1 ∷ [] });
      listing = [];
    }

unfoldable pub asked : List StepExample
asked = who ∷ parents ∷ whose ∷ []
