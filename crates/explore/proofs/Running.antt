-- The run, midway: what the loop of `explore_all` keeps, and its turns. Assumes nothing.
use mathlib.Core.Path.{◌≡◌, refl, sym, ◌∙◌, ap, ap₂, subst}
use mathlib.Core.List.{List, [], ◌∷◌}
use mathlib.Core.Option.{none, some}
use Prim.Native.Nat.{ℕ, zero, suc, ◌+◌, ◌-◌, ◌≤◌, ◌<◌}
use native.Mathlib.Omega.{arith}
use lib.ListN.{length, drop}
use Rattle.covering.specs.Lists.{head}
use Rattle.covering.specs.Term.{Question}
use Rattle.covering.specs.Search.{covers}
use Rattle.covering.specs.Form.{form}
use Rattle.covering.specs.Record.{stored, question_of, Fits, SoundRecord}
use Rattle.covering.specs.Buffer.{held_in, record_room}
use Rattle.covering.specs.Asking.{joined, Shaped}
use Rattle.reading.specs.declared.Header.{Header}
use Rattle.reading.specs.Header.{HeaderRead}
use Rattle.reading.specs.Book.{book_of, layout_of}
use Rattle.reading.specs.Verdict.{SoundBook}
use Rattle.reading.proofs.Reading.{book_allowed}
use Rattle.std.specs.Prelude.{Result, Ok, Err}
use Rattle.reading.specs.declared.Reason.{Reason}
use Rattle.reading.specs.declared.Reason.TheVariants.{NoneLeft}
use Rattle.exploration.specs.Run.{State, none_left, Pass, Outcome, refused, on_pass, oldest}
use Rattle.exploration.specs.Run.{taken_up, start, through, exploring, all_rewritings}
use Rattle.exploration.specs.Steps.{between, within, Reaches, begins, takes_up}
use Rattle.exploration.specs.Answer.{outcome_of}
use Rattle.exploration.specs.Refusals.{limits_of}
use Rattle.admit.specs.WorkingArray.{alone}
use Rattle.explore.specs.Exploring.{MemberIn, ExploredIs, RanIs}
use Rattle.explore.proofs.Records.{member_question}
use Rattle.covering.proofs.Padded.{stored_sound, stored_question}
use Rattle.exploration.proofs.Turns.{turn_complete, turn_ten, turn_explores}
use Rattle.exploration.proofs.Ends.{through_reaches}
use Rattle.exploration.proofs.OfBook.{Member, run_begins, first_member, taken_member, stored_fits, member_few}

-- the next of a list
head_some : {A : Type 0} (n : ℕ) (l : List A) → n < length l → (a : A) × (head (drop n l) ≡ some a)
head_some n [] h = absurd (omega arith)
head_some zero (x ∷ l) h = (x, refl)
head_some (suc n) (x ∷ l) h = head_some n l (omega arith)

head_none : {A : Type 0} (n : ℕ) (l : List A) → length l ≤ n → head (drop n l) ≡ none
head_none zero [] h = refl
head_none (suc n) [] h = refl
head_none zero (x ∷ l) h = absurd (omega arith)
head_none (suc n) (x ∷ l) h = head_none n l (omega arith)

module _ (B : List ℕ) where
  abbrev steps : Question → List Question
  steps = all_rewritings (book_of B).rules

  abbrev allowed : ℕ
  allowed = (book_of B).allowed

  abbrev Comes : State → ℕ → Type 0
  Comes t n = Reaches covers (limits_of B) steps allowed (joined (book_of B).question) (between t n)

  -- so many questions were taken up; the run comes to the union t
  pub record Running (t : State) (taken : ℕ) : Type 0 where
    pub few : taken ≤ (book_of B).allowed
    pub comes : Reaches covers (limits_of B) (all_rewritings (book_of B).rules) (book_of B).allowed (joined (book_of B).question)
        (between t taken)
    pub outcome : outcome_of B
        ≡ exploring covers (limits_of B) (all_rewritings (book_of B).rules) ((book_of B).allowed - taken) taken t

  -- "The form of the question is the first member."
  module _ {t : State} (begun : t ≡ start (joined (book_of B).question)) where
    pub running_first : Running t 0
    running_first =
        record {
          few = omega arith;
          comes = subst (λ (u : State). Comes u 0) (sym begun) begins;
          outcome =
              run_begins (book_of B).rules allowed (book_of B).question
              ∙ ap₂ (λ (n : ℕ) (u : State). exploring covers (limits_of B) steps n 0 u) all (sym begun);
        }
      where
        all : allowed ≡ allowed - 0
        all = omega arith

  -- as it is put into an array: its record R is sound, and has nine atoms at most
  module _ (s : SoundBook B) (R : List ℕ) (is : R ≡ held_in stored record_room (form (joined (book_of B).question))) where
    fits : Fits stored (form (joined (book_of B).question))
    fits = stored_fits B s (first_member B s).fits

    pub first_sound : SoundRecord stored R
    first_sound = subst (SoundRecord stored) (sym is) (stored_sound (form (joined (book_of B).question)) fits)

    question : question_of stored R ≡ form (joined (book_of B).question)
    question = ap (question_of stored) is ∙ stored_question (form (joined (book_of B).question)) fits

    pub first_short : length (question_of stored R) ≤ 9
    first_short = omega (arith, ap length question, member_few B s (first_member B s))

    pub first_alone : alone (question_of stored R) ≡ start (joined (book_of B).question)
    first_alone = ap alone question

  pub allowed_read : (h : Header) → HeaderRead B h → h.allowed ≡ (book_of B).allowed
  allowed_read h r = ap (λ (x : Header). x.allowed) r.is ∙ sym (book_allowed B)

  -- one turn
  module _ {s : State} {taken : ℕ} (r : Running s taken) where
    pub outcome_complete : (book_of B).allowed ≤ 1000 → length s.members ≤ s.explored → RanIs (outcome_of B) s (Ok taken)
    outcome_complete most h = (
      r.outcome
          ∙ turn_complete covers (limits_of B) steps taken s (allowed - taken) (head_none s.explored s.members h),
      omega (arith, r.few, most),
    )

    pub outcome_ten : s.explored < length s.members → taken ≡ allowed
        → RanIs (outcome_of B) s (Err (record { reason = NoneLeft; place = taken }))
    outcome_ten h e =
        let m = head_some s.explored s.members h in (
          none_left,
          r.outcome
              ∙ ap (λ (n : ℕ). exploring covers (limits_of B) steps n taken s) none_more
              ∙ turn_ten covers (limits_of B) steps taken s m.1,
          refl,
        )
      where
        none_more : allowed - taken ≡ 0
        none_more = omega arith

    -- "Take up the oldest unexplored member", so that it counts as explored
    module _ (more : taken < (book_of B).allowed) where
      module _ (sound : SoundBook B) (M : Question) (old : oldest s ≡ some M) where
        comes_within : Reaches covers (limits_of B) steps allowed (joined (book_of B).question)
            (within M (steps M) (taken_up s) (suc taken))
        comes_within = takes_up r.comes old more

        member : Member B M
        member = taken_member B sound comes_within

        pub question_is : (R : List ℕ) → R ≡ held_in stored record_room M → question_of stored R ≡ M
        question_is R e = ap (question_of stored) e ∙ member_question B sound M member.fits

        pub member_of : (R : List ℕ) → R ≡ held_in stored record_room M → MemberIn B R
        member_of R e =
            let q = question_is R e in
            record {
              holds = e ∙ ap (held_in stored record_room) (sym q);
              fits = subst (Fits (layout_of B)) (sym q) member.fits;
              shaped = subst (Shaped (length (book_of B).question.answer)) (sym q) member.shaped;
            }

        turn : outcome_of B
            ≡ on_pass (through covers (limits_of B) M (steps M) (taken_up s))
            (λ t. exploring covers (limits_of B) steps (allowed - suc taken) (suc taken) t)
            (λ w. refused w (suc taken))
        turn =
            r.outcome
            ∙ ap (λ (n : ℕ). exploring covers (limits_of B) steps n taken s) left
            ∙ turn_explores covers (limits_of B) steps taken s old (allowed - suc taken)
          where
            left : allowed - taken ≡ suc (allowed - suc taken)
            left = omega arith

        one_taken : suc taken ≡ taken + 1
        one_taken = omega arith

        after : Pass → Outcome
        after p =
            on_pass p (λ t. exploring covers (limits_of B) steps (allowed - suc taken) (suc taken) t)
            (λ w. refused w (suc taken))

        -- what its exploration gave, from the union x
        module _ (R : List ℕ) (is : R ≡ held_in stored record_room M) {x : State} (up : x ≡ taken_up s) where
          gave : (y : State) (u : Result Unit Reason) → ExploredIs (limits_of B) (book_of B).rules (question_of stored R) x y u
              → ExploredIs (limits_of B) (book_of B).rules M (taken_up s) y u
          gave y u e =
              subst (λ (A : Question). ExploredIs (limits_of B) (book_of B).rules A (taken_up s) y u) (question_is R is)
              (subst (λ (z : State). ExploredIs (limits_of B) (book_of B).rules (question_of stored R) z y u) up e)

          pub running_next : (y : State) → ExploredIs (limits_of B) (book_of B).rules (question_of stored R) x y (Ok tt)
              → Running y (taken + 1)
          unfolding after
          running_next y e =
              let g = gave y (Ok tt) e in
              record {
                few = omega arith;
                comes =
                    subst (λ (n : ℕ). Comes y n) one_taken
                    (through_reaches covers (limits_of B) steps allowed (joined (book_of B).question) M (steps M) (taken_up s)
                    y (suc taken) comes_within g);
                outcome =
                    turn
                    ∙ ap after g
                    ∙ ap (λ (n : ℕ). exploring covers (limits_of B) steps (allowed - n) n y) one_taken;
              }

          pub outcome_refused : (y : State) (k : Reason)
              → ExploredIs (limits_of B) (book_of B).rules (question_of stored R) x y (Err k)
              → RanIs (outcome_of B) y (Err (record { reason = k; place = taken + 1 }))
          unfolding after
          outcome_refused y k e =
              let g = gave y (Err k) e in
              (g.0, turn ∙ ap after g.1 ∙ ap (refused g.0) one_taken, g.2)
