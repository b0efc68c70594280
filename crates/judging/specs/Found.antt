-- What is told of the place that the code found.
use Rattle.std.specs.Prelude.{ℕ, Option, Some, None}
use Rattle.reading.specs.Refusal.{Refusal}
use Rattle.reading.specs.Verdict.{accepted}

-- number n at that place, or nothing
abbrev pub told_at : ℕ → Option ℕ → Refusal
told_at n None = accepted
told_at n (Some p) = record { number = n; place = p }
