-- Its words, each where the header has it. Assumes nothing.
use native.Mathlib.Omega.{arith}
use mathlib.Core.Path.{◌≡◌}
use mathlib.Core.List.{List}
use Prim.Native.Nat.{ℕ, ◌≤◌}
use lib.ListN.{length}
use Rattle.reading.specs.declared.Header.{Header}
use Rattle.reading.specs.Header.{relations, constants, rules, atoms, allowed, relations_at, rules_at, question_at}
use Rattle.reading.specs.Header.{header_of, header_size, total_word}
use Rattle.reading.proofs.Forms.{form_known}
use Rattle.book.proofs.read.Goals as goal

-- nine of them are there in either form
long : (B : List ℕ) → header_size B ≤ length B → 18 ≤ length B
long B l = omega (arith, (form_known B).some_header)

-- the header of the words that were read
header_is : (B : List ℕ) {p c r n l t s q w a : ℕ} → p ≡ relations B → c ≡ constants B → r ≡ rules B → n ≡ atoms B
    → l ≡ allowed B → t ≡ relations_at B → s ≡ rules_at B → q ≡ question_at B → w ≡ total_word B → a ≡ (header_of B).places
    → ◌≡◌ {A = Header}
    (record {
      relations = p;
      constants = c;
      rules = r;
      atoms = n;
      allowed = l;
      table = t;
      start = s;
      question = q;
      total = w;
      places = a;
    })
    (header_of B)
header_is B p c r n l t s q w a =
    λ i. record {
      relations = p i;
      constants = c i;
      rules = r i;
      atoms = n i;
      allowed = l i;
      table = t i;
      start = s i;
      question = q i;
      total = w i;
      places = a i;
    }

pub word-table-requires : goal.word-table-requires
word-table-requires c = omega (arith, long _ c.requires)

pub word-requires : goal.word-requires
word-requires c = omega (arith, long _ c.requires)

pub word-requires-2 : goal.word-requires-2
word-requires-2 c = omega (arith, long _ c.requires)

pub word-requires-3 : goal.word-requires-3
word-requires-3 c = omega (arith, long _ c.requires)

pub word-requires-4 : goal.word-requires-4
word-requires-4 c = omega (arith, long _ c.requires)

pub word-requires-5 : goal.word-requires-5
word-requires-5 c = omega (arith, long _ c.requires)

pub word-requires-6 : goal.word-requires-6
word-requires-6 c = omega (arith, long _ c.requires)

pub word-requires-7 : goal.word-requires-7
word-requires-7 c = omega (arith, long _ c.requires)

pub word-requires-8 : goal.word-requires-8
word-requires-8 c = omega (arith, long _ c.requires)

pub places-requires : goal.places-requires
places-requires c = (c.word-table.ensures.0, c.requires)

pub returns : goal.returns
returns c =
    record {
      is =
          header_is _ c.word.ensures.0 c.word-2.ensures.0 c.word-3.ensures.0
          c.word-4.ensures.0 c.word-5.ensures.0 c.word-table.ensures.0
          c.word-6.ensures.0 c.word-7.ensures.0
          c.word-8.ensures.0 c.places.ensures;
      relations_fit = omega (arith, c.word.ensures);
      atoms_fit = omega (arith, c.word-4.ensures);
      question_fits = omega (arith, c.word-7.ensures);
    }
