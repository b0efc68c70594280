-- A book's rules put one after the other: each of them can be, those passed are. Assumes nothing.
use mathlib.Core.Path.{◌≡◌, sym, ◌∙◌, ap, ap₂, subst}
use mathlib.Core.List.{List, [], ◌∷◌, ◌++◌, append_assoc, append-nil}
use Prim.Native.Nat.{ℕ, ◌+◌, ◌*◌, ◌-◌, ◌≤◌, ◌<◌}
use native.Mathlib.Omega.{arith}
use lib.ListN.{length, length-append}
use Rattle.covering.specs.Lists.{◌∈◌, gather}
use Rattle.covering.specs.Term.{Atom, Question}
use Rattle.covering.specs.Record.{holding, atoms_at, atom_bytes}
use Rattle.covering.specs.Rule.{Rule}
use Rattle.covering.specs.Buffer.{AtomsIn}
use Rattle.covering.specs.Put.{Puts}
use Rattle.covering.proofs.Lengths.{atoms_long, count_atoms}
use Rattle.covering.proofs.Putting.{put_none, put_as, then, kept}
use Rattle.reading.specs.Header.{BookForm, rules, atom_places}
use Rattle.reading.specs.Book.{Book, body_count, head_count, head_at, rule_end, rule_at, rules_from, rules_start}
use Rattle.reading.specs.Book.{rule_start, book_of}
use Rattle.reading.specs.Verdict.{SoundBook}
use Rattle.reading.specs.Written.{atoms_bytes, rule_bytes, rules_bytes, BookAtom, BookRule, BookFits}
use Rattle.reading.proofs.After.{after_zero, after_next}
use Rattle.reading.proofs.BookFit.{body_counted, head_counted}
use Rattle.reading.proofs.Reading.{book_rules, rule_body, rule_head, rules_none, rules_more, rule_member}
use Rattle.reading.proofs.SoundBook.{SoundRule, sound_header, sound_rule, sound_body, sound_head, holding_room}
use Rattle.forms.specs.Ready.{RuleReady, BookReady}

-- an atom that fits a form uses no more places than the form has
pub atom_few : (f : BookForm) (b : Book) → BookFits f b → (a : Atom) → BookAtom f b a → length a.args ≤ f.places
atom_few f b fits a k = omega (arith, k.places, (fits.places a.rel k.relation).1)

-- how many bytes a rule gets
module _ (B : List ℕ) (f : BookForm) (s : ℕ) where
  pub rule_long : length (rule_bytes f (rule_at B s))
      ≡ 2 + body_count B s * (1 + f.places) + head_count B s * (1 + f.places)
  unfolding rule_bytes
  rule_long =
      omega (
        arith,
        length-append (atoms_bytes f (rule_at B s).body) (atoms_bytes f (rule_at B s).head),
        atoms_long (holding f.places) (rule_at B s).body
            ∙ ap (λ (n : ℕ). n * (1 + f.places)) (body_counted B s),
        atoms_long (holding f.places) (rule_at B s).head
            ∙ ap (λ (n : ℕ). n * (1 + f.places)) (head_counted B s),
      )

-- the same, as the code reads the counts, the places of the book and those of the form
module _ {B : List ℕ} {s : ℕ} {f : BookForm} (r : RuleReady B s f) {w b h v : ℕ} (ew : w ≡ atom_places B)
    (eb : b ≡ body_count B s) (eh : h ≡ head_count B s) (ev : v ≡ f.places)
  where
    pub body_in : AtomsIn (holding w) B (s + 2) b
    body_in =
        subst (λ (x : ℕ). AtomsIn (holding x) B (s + 2) b) (sym ew)
        (subst (λ (n : ℕ). AtomsIn (holding (atom_places B)) B (s + 2) n) (sym eb) r.body)

    pub head_in : AtomsIn (holding w) B (s + 2 + (1 + w) * b) h
    head_in =
        subst (λ (x : ℕ). AtomsIn (holding x) B (s + 2 + (1 + x) * b) h) (sym ew)
        (subst (λ (n : ℕ). AtomsIn (holding (atom_places B)) B (s + 2 + (1 + atom_places B) * n) h) (sym eb)
        (subst (λ (n : ℕ). AtomsIn (holding (atom_places B)) B (head_at B s) n) (sym eh) r.head))

    body_is : atoms_at (holding w) B (s + 2) b ≡ (rule_at B s).body
    body_is = ap₂ (λ (x n : ℕ). atoms_at (holding x) B (s + 2) n) ew eb ∙ sym (rule_body B s)

    head_is : atoms_at (holding w) B (s + 2 + (1 + w) * b) h ≡ (rule_at B s).head
    head_is =
        ap₂ (λ (x n : ℕ). atoms_at (holding x) B (s + 2 + (1 + x) * n) h) ew eb
        ∙ ap (atoms_at (holding (atom_places B)) B (head_at B s)) eh
        ∙ sym (rule_head B s)

    pub body_few : (a : Atom) → a ∈ atoms_at (holding w) B (s + 2) b → length a.args ≤ v
    body_few a m = omega (arith, ev, r.few_body a (subst (λ (A : Question). a ∈ A) body_is m))

    pub head_few : (a : Atom) → a ∈ atoms_at (holding w) B (s + 2 + (1 + w) * b) h → length a.args ≤ v
    head_few a m = omega (arith, ev, r.few_head a (subst (λ (A : Question). a ∈ A) head_is m))

    pub rule_put : rule_bytes f (rule_at B s)
        ≡ body_count B s
        ∷ head_count B s
        ∷ (gather (atom_bytes (holding v)) (atoms_at (holding w) B (s + 2) b)
        ++ gather (atom_bytes (holding v)) (atoms_at (holding w) B (s + 2 + (1 + w) * b) h))
    unfolding rule_bytes
    rule_put =
        ap₂ ◌∷◌ (body_counted B s)
        (ap₂ ◌∷◌ (head_counted B s)
        (ap₂ ◌++◌ (ap₂ (λ (x : ℕ) (A : Question). gather (atom_bytes (holding x)) A) (sym ev) (sym body_is))
        (ap₂ (λ (x : ℕ) (A : Question). gather (atom_bytes (holding x)) A) (sym ev) (sym head_is))))

    -- there is room for the head once the body is put
    pub head_room : (at : ℕ) {out after : List ℕ} {end : ℕ}
        → Puts (gather (atom_bytes (holding v)) (atoms_at (holding w) B (s + 2) b)) out (at + 2) end after
        → at + 2 + body_count B s * (1 + f.places) + head_count B s * (1 + f.places) ≤ length out
        → end + h * (1 + v) ≤ length after
    head_room at p room =
        let body : b * (1 + v) ≡ body_count B s * (1 + f.places) = ap₂ (λ (x y : ℕ). x * (1 + y)) eb ev in
        let head : h * (1 + v) ≡ head_count B s * (1 + f.places) = ap₂ (λ (x y : ℕ). x * (1 + y)) eh ev in
        let long : length (gather (atom_bytes (holding v)) (atoms_at (holding w) B (s + 2) b)) ≡ b * (1 + v) =
        atoms_long (holding v) (atoms_at (holding w) B (s + 2) b)
        ∙ ap (λ (n : ℕ). n * (1 + v)) (count_atoms (holding w) B b (s + 2)) in
        omega (arith, p.ends, long, body, head, kept p, room)

module _ (B : List ℕ) (f : BookForm) (ready : BookReady B f) where
  -- rule k can be put
  pub rule_ready : (k : ℕ) → k < rules B → RuleReady B (rule_start B k) f
  rule_ready k l =
      record {
        body =
            record {
              fits = omega (arith, r.ends, (sound_header B s).ends);
              sound = sound_body B s (holding (atom_places B)) (holding_room B s) k l;
            };
        head =
            record {
              fits = omega (arith, r.ends, (sound_header B s).ends);
              sound = sound_head B s (holding (atom_places B)) (holding_room B s) k l;
            };
        few_body = λ a m. atom_few f (book_of B) ready.fits a (fit.body a m);
        few_head = λ a m. atom_few f (book_of B) ready.fits a (fit.head a m);
      }
    where
      s : SoundBook B
      s = ready.sound

      r : SoundRule B (rule_start B k)
      r = sound_rule B s k l

      fit : BookRule f (book_of B) (rule_at B (rule_start B k))
      fit =
          ready.fits.rules (rule_at B (rule_start B k))
          (subst (λ (rs : List Rule). rule_at B (rule_start B k) ∈ rs) (sym (book_rules B))
          (rule_member B (rules_start B) (rules B) k l))

module _ (B : List ℕ) (f : BookForm) where
  module _ (came : List ℕ) (at : ℕ) where
    -- k rules are put, s is come to in the book and `end` in the output
    pub record SoFar (out : List ℕ) (s end k : ℕ) : Type 0 where
      pub passed : k ≤ rules B
      pub here : s ≡ rule_start B k
      pub room : at + length (rules_bytes f (book_of B).rules) ≤ length came
      pub done : List ℕ
      pub put : Puts done came at end out
      pub whole : done ++ rules_bytes f (rules_from B (rule_start B k) (rules B - k)) ≡ rules_bytes f (book_of B).rules

    pub rules_begin : at + length (rules_bytes f (book_of B).rules) ≤ length came → {s : ℕ} → s ≡ rules_start B
        → SoFar came s at 0
    rules_begin room {s} e =
        record {
          passed = omega arith;
          here = e ∙ sym (after_zero B (rules_start B));
          room = room;
          done = [];
          put = put_none (omega arith);
          whole =
              ap (rules_bytes f)
              (ap₂ (rules_from B) (after_zero B (rules_start B)) all ∙ sym (book_rules B));
        }
      where
        all : rules B - 0 ≡ rules B
        all = omega arith

    module _ {out : List ℕ} {s end k : ℕ} (so : SoFar out s end k) where
      pub same_room : length out ≡ length came
      same_room = kept so.put

      pub rules_end : rules B ≤ k → Puts (rules_bytes f (book_of B).rules) came at end out
      rules_end l =
          put_as
          (sym so.whole
          ∙ ap (λ (rs : List Rule). so.done ++ rules_bytes f rs) (rules_none B (rule_start B k) (rules B) k l)
          ∙ append-nil so.done)
          so.put

      module _ (l : k < rules B) where
        next : rules_from B (rule_start B k) (rules B - k)
            ≡ rule_at B (rule_start B k) ∷ rules_from B (rule_start B (k + 1)) (rules B - (k + 1))
        next = rules_more B (rules B) k l

        more : (so.done ++ rule_bytes f (rule_at B s))
            ++ rules_bytes f (rules_from B (rule_start B (k + 1)) (rules B - (k + 1)))
            ≡ rules_bytes f (book_of B).rules
        more =
            append_assoc so.done (rule_bytes f (rule_at B s)) _
            ∙ ap (λ (x : ℕ). so.done ++ (rule_bytes f (rule_at B x)
            ++ rules_bytes f (rules_from B (rule_start B (k + 1)) (rules B - (k + 1))))) so.here
            ∙ ap (λ (rs : List Rule). so.done ++ rules_bytes f rs) (sym next)
            ∙ so.whole

        pub next_ready : BookReady B f → RuleReady B s f
        next_ready ready = subst (λ (x : ℕ). RuleReady B x f) (sym so.here) (rule_ready B f ready k l)

        pub next_room : end + length (rule_bytes f (rule_at B s)) ≤ length out
        next_room =
            omega (
              arith,
              same_room,
              so.room,
              so.put.ends,
              ap length more,
              length-append (so.done ++ rule_bytes f (rule_at B s))
                  (rules_bytes f (rules_from B (rule_start B (k + 1)) (rules B - (k + 1)))),
              length-append so.done (rule_bytes f (rule_at B s)),
            )

        pub rules_step : {after : List ℕ} {stop start : ℕ} → start ≡ rule_end B s
            → Puts (rule_bytes f (rule_at B s)) out end stop after → SoFar after start stop (k + 1)
        rules_step {after} {stop} {start} e p =
            record {
              passed = omega arith;
              here = e ∙ ap (rule_end B) so.here ∙ sym (after_next B (rules_start B) k);
              room = so.room;
              done = so.done ++ rule_bytes f (rule_at B s);
              put = then so.put p;
              whole = more;
            }
