-- The sum of a time, each step of which stays in signed 64 bits (FORMAT 1.7). Assumes nothing: these are definitions.
use Rattle.std.specs.Prelude.{Option, Some as some, None as none, ℤ, pos, ◌+ℤ◌, ◌*ℤ◌}
use Rattle.clock_model.specs.Sums.{checked}

abbrev pub and_then : Option ℤ → (ℤ → Option ℤ) → Option ℤ
and_then none k = none
and_then (some z) k = k z

-- (((h·60)+m)·60+s)·1,000,000 + ms·1,000, where each step stays in signed 64 bits
abbrev pub micros_of : ℤ → ℤ → ℤ → ℤ → Option ℤ
micros_of h m s ms =
    and_then (checked (h *ℤ pos 60))
    (λ a. and_then (checked (a +ℤ m))
    (λ b. and_then (checked (b *ℤ pos 60))
    (λ d. and_then (checked (d +ℤ s))
    (λ e. and_then (checked (e *ℤ pos 1000000))
    (λ f. and_then (checked (ms *ℤ pos 1000))
    (λ g. checked (f +ℤ g)))))))
