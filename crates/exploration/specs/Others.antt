-- The examples that are not starred, as one list: 01's 10 and 11, the books of `Examples`, and for each order of the
-- exploration that could be got wrong one that tells it from the right one.
use Rattle.std.specs.Prelude.{List, [], ◌∷◌, ◌++◌, map, ℕ, ◌+◌, replicate}
use Rattle.covering.specs.Lists.{numbers}
use Rattle.covering.specs.Term.{Term, Atom, var, con, Question}
use Rattle.covering.specs.Asking.{Asking}
use Rattle.covering.specs.Rule.{Rule}
use Rattle.reading.specs.Header.{BookForm, old, new}
use Rattle.reading.specs.Written.{book_bytes}
use Rattle.unification.specs.Examples.{at1, at2, v0, v1, v2, example9}
use Rattle.exploration.specs.Run.{too_long, none_left, refused}
use Rattle.exploration.specs.Examples.{BookExample, Example, limited, answering, rewritten, c0, rule}
use Rattle.exploration.specs.Examples.{answered, untouched}
use Rattle.exploration.specs.Examples.{printed_book, printed_once, depth_two}

-- a stored book in the old form: its relations' places, how many constants, the explorations allowed, its rules and its
-- question
abbrev in_form : BookForm → List ℕ → ℕ → ℕ → List Rule → Asking → List ℕ
in_form f places C L rules q =
    book_bytes f (record { places = places; constants = C; rules = rules; question = q; allowed = L })

abbrev asking_book : List ℕ → ℕ → ℕ → List Rule → Asking → List ℕ
asking_book places C L rules q = in_form old places C L rules q

-- one that asks for a yes
abbrev yes_book : List ℕ → ℕ → ℕ → List Rule → Question → List ℕ
yes_book places C L rules Q = asking_book places C L rules (record { answer = []; atoms = Q })

-- so many relations of one place
abbrev ones : ℕ → List ℕ
ones n = replicate n 1

-- 10. "Rules pi(x) to p0(x), i = 1 to 7; question p0(c0) p0(c1)"
abbrev to_first : ℕ → Rule
to_first i = rule (at1 i v0 ∷ []) (at1 0 v0 ∷ [])

abbrev example10 : ℕ → ℕ → List ℕ
example10 n L = yes_book (ones (1 + n)) 2 L (map to_first (numbers 1 n)) (at1 0 c0 ∷ at1 0 (con 1) ∷ [])

-- "with L = 64 complete, 64 members"
abbrev pub example10_whole : BookExample
example10_whole = answered (example10 7 64) (0, 712) (64 ∷ 0 ∷ 64 ∷ 0 ∷ 8 ∷ 0 ∷ 200 ∷ 2 ∷ [])

-- "with L = 63 refusal 10"
abbrev pub example10_less : BookExample
example10_less = answered (example10 7 63) (10, 63) untouched

-- "An eighth rule and L = 1,000: refusal 9."
abbrev pub example10_eighth : BookExample
example10_eighth = answered (example10 8 1000) (9, 9) untouched

-- 11. "p(x,y) p(y,z) to p(x,z); question p(c0,c1); L = 100: refusal 8, place 8."
abbrev pub example11 : BookExample
example11 =
    answered
    (yes_book (2 ∷ []) 2 100 (rule (at2 0 v0 v1 ∷ at2 0 v1 v2 ∷ []) (at2 0 v0 v2 ∷ []) ∷ []) (at2 0 c0 (con 1) ∷ []))
    (8, 8) untouched

-- "Take up the oldest unexplored member; go through rules in book order": p1(x) to p0(x), p2(x) to p0(x), p3(x) to
-- p1(x), p4(x) to p2(x), question p0(v1) p0(v1), whose form is p0(v0). The members are p0(v0) to p4(v0) in this order;
-- the newest first, or the rules from the last on, would give another.
abbrev pub oldest_first : BookExample
oldest_first =
    answered
    (yes_book (ones 5) 0 10
    (to_first 1
    ∷ to_first 2
    ∷ rule (at1 3 v0 ∷ []) (at1 1 v0 ∷ [])
    ∷ rule (at1 4 v0 ∷ []) (at1 2 v0 ∷ [])
    ∷ [])
    (at1 0 v1 ∷ at1 0 v1 ∷ []))
    (0, 38)
    (5 ∷ 0 ∷ 5 ∷ 0 ∷ 8 ∷ 0 ∷ 38 ∷ 0
    ∷ 1 ∷ 0 ∷ 0 ∷ 255 ∷ 255 ∷ 255
    ∷ 1 ∷ 1 ∷ 0 ∷ 255 ∷ 255 ∷ 255
    ∷ 1 ∷ 2 ∷ 0 ∷ 255 ∷ 255 ∷ 255
    ∷ 1 ∷ 3 ∷ 0 ∷ 255 ∷ 255 ∷ 255
    ∷ 1 ∷ 4 ∷ 0 ∷ 255 ∷ 255 ∷ 255 ∷ untouched)

-- "Members use seven bytes too" (02, i): the book that 01 prints, in the new form. With five bytes an atom it would be 25
-- in all.
abbrev printed_rule : Rule
printed_rule = rule (at1 0 v0 ∷ []) (at1 1 v1 ∷ at2 2 v0 v1 ∷ [])

abbrev pub printed_new : BookExample
printed_new =
    answered
    (in_form new (1 ∷ 1 ∷ 2 ∷ []) 0 10 (printed_rule ∷ []) (record { answer = []; atoms = at1 1 v0 ∷ at2 2 v1 v0 ∷ [] }))
    (0, 31)
    (2 ∷ 0 ∷ 2 ∷ 0 ∷ 8 ∷ 0 ∷ 31 ∷ 0
    ∷ 2 ∷ 1 ∷ 0 ∷ 255 ∷ 255 ∷ 255 ∷ 255 ∷ 255 ∷ 2 ∷ 1 ∷ 0 ∷ 255 ∷ 255 ∷ 255 ∷ 255
    ∷ 1 ∷ 0 ∷ 0 ∷ 255 ∷ 255 ∷ 255 ∷ 255 ∷ 255 ∷ untouched)

-- Loan lines of six places: lent(x) to loan(x,u,y,z,w,v); question loan(v0,v1,v2,v3,v4,v5) with the first to answer with.
-- What is lent is a member, its five unknowns gone.
abbrev line : Term → Term → Atom
line a b = record { rel = 1; args = a ∷ b ∷ var 2 ∷ var 3 ∷ var 4 ∷ var 5 ∷ [] }

abbrev pub loan_line : BookExample
loan_line =
    answered
    (in_form new (1 ∷ 6 ∷ []) 0 10 (rule (at1 0 v0 ∷ []) (line v0 v1 ∷ []) ∷ [])
    (record { answer = v0 ∷ []; atoms = line v0 v1 ∷ [] }))
    (0, 38)
    (2 ∷ 0 ∷ 2 ∷ 0 ∷ 8 ∷ 0 ∷ 38 ∷ 0
    ∷ 1 ∷ 255 ∷ 0 ∷ 255 ∷ 255 ∷ 255 ∷ 255 ∷ 255 ∷ 1 ∷ 0 ∷ 1 ∷ 2 ∷ 3 ∷ 4 ∷ 5
    ∷ 1 ∷ 255 ∷ 0 ∷ 255 ∷ 255 ∷ 255 ∷ 255 ∷ 255 ∷ 0 ∷ 0 ∷ 255 ∷ 255 ∷ 255 ∷ 255 ∷ 255 ∷ untouched)

-- "choices in theirs": of example 9 the choices of one piece, 0 1 and 1 0, come before the choice of both, 1 1. In
-- descending order they would come after it.
abbrev pub choices_in_order : Example
choices_in_order = rewritten example9

-- "it still counts as explored": p0(x) to p1(x), question p0(v0) p1(v0). Its rewriting p0(v0) covers it. There is one
-- member and two are explored; if the members were counted it would be one.
abbrev pub removed : BookExample
removed =
    answered (yes_book (ones 2) 0 10 (rule (at1 0 v0 ∷ []) (at1 1 v0 ∷ []) ∷ []) (at1 0 v0 ∷ at1 1 v0 ∷ [])) (0, 14)
    (1 ∷ 0 ∷ 2 ∷ 0 ∷ 8 ∷ 0 ∷ 14 ∷ 0 ∷ 1 ∷ 0 ∷ 0 ∷ 255 ∷ 255 ∷ 255 ∷ untouched)

-- "If the member taken up is itself removed, its exploration stops at once": p0(x) to p1(x), p5(x) p6(x) p7(x) p8(x)
-- to p2(x), question p0(v0) p1(v0) p2(c0) p3(c1) p3(c2) p3(c3). Its first rewriting covers it. Explored further, it
-- would have one of nine atoms by the second rule, and be refused with 8.
abbrev pub stops_at_once : BookExample
stops_at_once =
    answered
    (yes_book (ones 9) 4 10
    (rule (at1 0 v0 ∷ []) (at1 1 v0 ∷ [])
    ∷ rule (at1 5 v0 ∷ at1 6 v0 ∷ at1 7 v0 ∷ at1 8 v0 ∷ []) (at1 2 v0 ∷ [])
    ∷ [])
    (at1 0 v0 ∷ at1 1 v0 ∷ at1 2 c0 ∷ at1 3 (con 1) ∷ at1 3 (con 2) ∷ at1 3 (con 3) ∷ []))
    (0, 75) (2 ∷ 0 ∷ 3 ∷ 0 ∷ 8 ∷ 0 ∷ 75 ∷ 0 ∷ [])

-- "If a member covers the new rewriting it is dropped .. Otherwise apply refusal 8": p1(x) p2(x) p3(x) pi(x) to p0(x),
-- question p0(c0) p4(c1) .. p4(c5). The rewriting has nine atoms. With i = 0 the question covers it, and with 8 before
-- the covering test it would be refused; with i = 5 it is refused.
abbrev long : ℕ → List ℕ
long i =
    yes_book (ones 6) 6 10 (rule (at1 1 v0 ∷ at1 2 v0 ∷ at1 3 v0 ∷ at1 i v0 ∷ []) (at1 0 v0 ∷ []) ∷ [])
    (at1 0 c0 ∷ map (λ c. at1 4 (con c)) (numbers 1 5))

abbrev pub covered_long : BookExample
covered_long = answered (long 0) (0, 39) (1 ∷ 0 ∷ 1 ∷ 0 ∷ 8 ∷ 0 ∷ 39 ∷ 0 ∷ [])

abbrev pub uncovered_long : BookExample
uncovered_long = answered (long 5) (8, 1) untouched

-- "remove every member that it covers, apply 9": pi(x) to p0(x), i = 1 to n, and p0(c1) to p0(c0), question p0(c0)
-- p0(c1) p0(c2), L = 1. The question and its rewritings by the first n rules are 1 + 3n members, as many as there is
-- room for. The last rule gives p0(c1) p0(c2), which covers the question, so that there is room again, and since
-- others are unexplored the run is refused with 10. With 9 before the removals it would be 9. At 01's limits n is 21.
abbrev fillers : ℕ → List Rule
fillers n = map to_first (numbers 1 n) ++ rule (at1 0 (con 1) ∷ []) (at1 0 c0 ∷ []) ∷ []

abbrev three : Question
three = at1 0 c0 ∷ at1 0 (con 1) ∷ at1 0 (con 2) ∷ []

abbrev pub room_again : Example
room_again = limited (record { cap = 8; room = 4 }) (fillers 1) 1 three (refused none_left 1)

abbrev pub room_again_at_64 : BookExample
room_again_at_64 = answered (yes_book (ones 22) 3 1 (fillers 21) three) (10, 1) untouched

-- "8 before 9": p1(x) p2(x) to p0(x), question p0(c0), where a member may have one atom and there is room for one
-- member. The rewriting has two atoms, and would be a second member. With 9 before 8 it would be 9.
abbrev pub long_and_no_room : Example
long_and_no_room =
    limited (record { cap = 1; room = 1 }) (rule (at1 1 v0 ∷ at1 2 v0 ∷ []) (at1 0 v0 ∷ []) ∷ []) 10 (at1 0 c0 ∷ [])
    (refused too_long 1)

-- With answer places (02, a): p1(x) to p0(x), question a(v0) p0(v0). The members are a(v0) p0(v0) and a(v0) p1(v0); each
-- counts its one atom and carries its answer record uncounted.
abbrev pub which_ones : BookExample
which_ones =
    answered
    (asking_book (ones 2) 0 10 (rule (at1 1 v0 ∷ []) (at1 0 v0 ∷ []) ∷ []) (record { answer = v0 ∷ []; atoms = at1 0 v0 ∷ [] }))
    (0, 30)
    (2 ∷ 0 ∷ 2 ∷ 0 ∷ 8 ∷ 0 ∷ 30 ∷ 0
    ∷ 1 ∷ 255 ∷ 0 ∷ 255 ∷ 255 ∷ 255 ∷ 0 ∷ 0 ∷ 255 ∷ 255 ∷ 255
    ∷ 1 ∷ 255 ∷ 0 ∷ 255 ∷ 255 ∷ 255 ∷ 1 ∷ 0 ∷ 255 ∷ 255 ∷ 255 ∷ untouched)

-- "outside the eight-atom limit": p5(x) p6(x) p7(x) p8(x) to p0(x), question a(v0) p0(v0) .. p4(v0). The rewriting has
-- eight atoms and its answer record, and is a member.
abbrev pub eight_and_the_record : BookExample
eight_and_the_record =
    answered
    (asking_book (ones 9) 0 10 (rule (map (λ i. at1 i v0) (numbers 5 4)) (at1 0 v0 ∷ []) ∷ [])
    (record { answer = v0 ∷ []; atoms = map (λ i. at1 i v0) (numbers 0 5) }))
    (0, 85) (2 ∷ 0 ∷ 2 ∷ 0 ∷ 8 ∷ 0 ∷ 85 ∷ 0 ∷ [])

-- Rules with nothing before the arrow (02, c): the rule to p0(x), question p0(v0). The rewriting has no atoms and covers the
-- question; it is taken up like any other. With L = 1 it is left unexplored.
abbrev known_rule : Rule
known_rule = rule [] (at1 0 v0 ∷ [])

abbrev pub known : BookExample
known = answered (yes_book (ones 1) 0 10 (known_rule ∷ []) (at1 0 v0 ∷ [])) (0, 9) (1 ∷ 0 ∷ 2 ∷ 0 ∷ 8 ∷ 0 ∷ 9 ∷ 0 ∷ 0 ∷ untouched)

abbrev pub known_once : BookExample
known_once = answered (yes_book (ones 1) 0 1 (known_rule ∷ []) (at1 0 v0 ∷ [])) (10, 1) untouched

-- p1(x) to p0(x), p2(x) to p1(x), p3(x) to p2(x) and the rule to p3(x), question p0(v0): everything follows from a fact.
-- Each step is a member until the last, which covers them all and has no atoms.
abbrev pub known_chain : BookExample
known_chain =
    answered
    (yes_book (ones 4) 0 10
    (map (λ i. rule (at1 (1 + i) v0 ∷ []) (at1 i v0 ∷ [])) (numbers 0 3) ++ rule [] (at1 3 v0 ∷ []) ∷ [])
    (at1 0 v0 ∷ []))
    (0, 9) (1 ∷ 0 ∷ 5 ∷ 0 ∷ 8 ∷ 0 ∷ 9 ∷ 0 ∷ 0 ∷ untouched)

-- the rule to p0(c0), question a(v0) p0(v0): a(c0) without atoms is a member, and has only a constant to answer
abbrev pub known_which : BookExample
known_which =
    answered (asking_book (ones 1) 1 10 (rule [] (at1 0 c0 ∷ []) ∷ []) (record { answer = v0 ∷ []; atoms = at1 0 v0 ∷ [] }))
    (0, 25)
    (2 ∷ 0 ∷ 2 ∷ 0 ∷ 8 ∷ 0 ∷ 25 ∷ 0
    ∷ 1 ∷ 255 ∷ 0 ∷ 255 ∷ 255 ∷ 255 ∷ 0 ∷ 0 ∷ 255 ∷ 255 ∷ 255
    ∷ 0 ∷ 255 ∷ 128 ∷ 255 ∷ 255 ∷ 255 ∷ untouched)

-- "11, an answer variable in no question atom, .. place its byte": question a(v0,v1) p0(v0)
abbrev pub loose : BookExample
loose =
    answered (asking_book (ones 1) 0 10 [] (record { answer = v0 ∷ v1 ∷ []; atoms = at1 0 v0 ∷ [] })) (11, 21) untouched

-- "The smallest applicable number among 1 to 7 wins": a book of no bytes is refused with 1 where the output has 2,951
-- bytes, and with 2 where it has 4,104. With the book judged first it would be 2 both times.
abbrev pub short_output : BookExample
short_output = record { book = []; room = 2951; answer = (1, 0); bytes = untouched }

abbrev pub no_book : BookExample
no_book = answered [] (2, 0) untouched

-- those that take long to compute last
unfoldable pub more_examples : List Example
more_examples =
    answering printed_book
    ∷ answering printed_once
    ∷ answering depth_two
    ∷ answering printed_new
    ∷ answering loan_line
    ∷ answering oldest_first
    ∷ choices_in_order
    ∷ answering removed
    ∷ answering stops_at_once
    ∷ answering covered_long
    ∷ answering uncovered_long
    ∷ room_again
    ∷ long_and_no_room
    ∷ answering which_ones
    ∷ answering eight_and_the_record
    ∷ answering loose
    ∷ answering known
    ∷ answering known_once
    ∷ answering known_chain
    ∷ answering known_which
    ∷ answering short_output
    ∷ answering no_book
    ∷ answering example10_whole
    ∷ answering example10_less
    ∷ answering example10_eighth
    ∷ answering example11
    ∷ answering room_again_at_64
    ∷ []
