-- Lists of blocks are known by their blocks, and the list of one table by its entries.
use mathlib.Core.Path.{◌≡◌, sym, ◌∙◌, subst}
use mathlib.Core.List.{List}
use Prim.Native.Nat.{ℕ, zero, suc, ◌*◌, ◌/◌, ◌%◌, ◌<◌}
use native.Mathlib.Nat.{div-add-mod', mod-lt, div-lt_iff_lt-mul, not-suc-le-zero, mul-zero, mul-pos}
use native.Mathlib.Omega.{arith}
use lib.IntN.{ℤ, pos}
use lib.ListN.{length, get_or}
use lib.Seq.{ext_get_or}
use Rattle.std.proofs.lemmas.Nat.{rows}
use Rattle.tables.specs.Tables.{◌≈⟨◌⟩◌, block, entries}

-- the first block is what the list holds
pub block_zero : (n : ℕ) (L : List ℤ) → block n L 0 ≈⟨ n ⟩ entries n L
block_zero n L i j h k = grind arith

-- place m is in block m / n², at row and column of m % n²
located : (n c : ℕ) (L K : List ℤ) → ((b : ℕ) → b < c → block n L b ≈⟨ n ⟩ block n K b) → (m : ℕ) → m < c * (n * n) → get_or L m (pos 0) ≡ get_or K m (pos 0)
located zero c L K f m l = absurd (not-suc-le-zero (rw (mul-zero c) at l))
located (suc n₀) c L K f m l =
    let n : ℕ = suc n₀ in
    let N : ℕ = n * n in
    let r : ℕ = m % N in
    let some : 0 < N = mul-pos {m = n} {n = n} (omega arith) (omega arith) in
    let same = f (m / N) ((div-lt_iff_lt-mul {k = N} some).1 l) (r / n) (r % n) in
    grind (arith, rows, same, div-add-mod' r n, div-add-mod' m N, mod-lt)

pub blocks_unique : (n c : ℕ) (L K : List ℤ) → length L ≡ c * (n * n) → length K ≡ c * (n * n) → ((b : ℕ) → b < c → block n L b ≈⟨ n ⟩ block n K b) → L ≡ K
blocks_unique n c L K p q f = ext_get_or (pos 0) L K (p ∙ sym q) (λ m l. located n c L K f m (subst (λ (z : ℕ). m < z) p l))

pub entries_unique : (n : ℕ) (L K : List ℤ) → length L ≡ n * n → length K ≡ n * n → entries n L ≈⟨ n ⟩ entries n K → L ≡ K
entries_unique n L K p q f = ext_get_or (pos 0) L K (p ∙ sym q) (λ m l. let same = f (m / n) (m % n) in grind (arith, rows, div-add-mod' m n, mod-lt))
