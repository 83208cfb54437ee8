-- Laws of one read of a byte: what is known of a reader and of the text before and after it. Assumes nothing.
use Rattle.std.proofs.Common.{◌≡◌, ◌≢◌, ℕ, ◌+◌, ◌<◌, List, ◌++◌, length, take, get_or, refl, sym, ap, subst, ◌∙◌, append_assoc, arith, Option, Some, None, Result, Ok, Err}
use Rattle.std.proofs.lemmas.List.{get_or-take}
use Rattle.std.proofs.lemmas.Slice.{take-put_mid, take-put_mid_below}
use borrow.Rule.Slice.PartMut.{put_mid}
use Rattle.std.proofs.Math.Seq.{take-length}
use Rattle.std.specs.Result.{result_unwrap_or}
use Rattle.std.specs.Io.KnownBytes.{Consumes, ReadConsumes}
use Rattle.std.specs.Io.{ReadsAtMost}

below : (text buf : List ℕ) (n k : ℕ) → n < length text → (j : ℕ) → j < n → get_or (put_mid n k text buf) j 0 ≡ get_or text j 0
below text buf n k l j f =
    sym (get_or-take n (put_mid n k text buf) j 0 f) ∙ ap (λ (t : List ℕ). get_or t j 0) (take-put_mid_below n k text buf n (omega arith) (omega arith))
    ∙ get_or-take n text j 0 f

-- a byte at place n that is no line end
pub plain_one : (text buf : List ℕ) (n k : ℕ) → n < length text → ((j : ℕ) → j < n → get_or text j 0 ≢ 10) → get_or (put_mid n k text buf) n 0 ≢ 10
    → (j : ℕ) → j < n + 1 → get_or (put_mid n k text buf) j 0 ≢ 10
plain_one text buf n k l h z j f = grind (arith, below text buf n k l)

joined : (old mid new : Option (List ℕ)) (a b : List ℕ) → Consumes old mid a → Consumes mid new b → Consumes old new (a ++ b)
joined None mid new a b p q = tt
joined (Some xs) None new a b p q = absurd p
joined (Some xs) (Some ys) None a b p q = absurd q
joined (Some xs) (Some ys) (Some zs) a b p q = p ∙ ap (λ (t : List ℕ). a ++ t) q ∙ sym (append_assoc a b zs)

-- a byte is read to place n
pub read_one : {E : Type 0} (r : Result ℕ E) (old mid new : Option (List ℕ)) (text buf : List ℕ) (n k : ℕ) → n < length text → length buf ≡ 1
    → Consumes old mid (take n text) → ReadsAtMost r buf → ReadConsumes mid new r buf → (result_unwrap_or r 0 ≡ 0 → ⊥)
    → Consumes old new (take (n + 1) (put_mid n k text buf))
read_one (Ok m) old mid new text buf n k f l p b q z =
    let e : m ≡ length buf = omega (arith, b, z, l) in
    rw (take-put_mid n k text buf (n + 1) (omega arith) (omega arith)) (joined old mid new (take n text) buf p (subst (λ (t : List ℕ). Consumes mid new t) (ap (λ (j : ℕ). take j buf) e ∙ take-length buf) q.0))
read_one (Err x) old mid new text buf n k f l p b q z = absurd (z refl)
