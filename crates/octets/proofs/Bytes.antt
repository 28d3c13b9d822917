-- Bytes: how each number that is read or written extends what is decoded or encoded, and that std's conversions are those of specs/Bytes.antt.
use mathlib.Core.Path.{◌≡◌, refl, sym, ap, ap₂, ◌∙◌}
use mathlib.Core.List.{List, [], ◌∷◌, ◌++◌, append-nil, append_assoc}
use Prim.Native.Nat.{ℕ, zero, suc, ◌+◌, ◌-◌, ◌*◌, ◌/◌, ◌%◌, ◌^◌, ◌<◌}
use native.Mathlib.Nat.{pow-suc, div-one, div-div-eq-div-mul}
use native.Mathlib.Omega.{arith}
use lib.IntN.{ℤ, pos, negsuc}
use lib.ListN.{length, length-append, get_or, take, drop}
use lib.Seq.{take-suc}
use mir.Syntax.{w32, w64}
use mir.Val.{to_z, of_z}
use Rattle.std.specs.Int.{from_le_bytes, byte_at, bytes_low_first, to_le_bytes}
use Rattle.std.proofs.lemmas.Grind.{common_steps}
use Rattle.std.specs.Simd.{first_chunks}
use Rattle.octets.specs.Bytes.{signed32, decode, bits64, least_first, encode}

-- ---- four bytes a number

pub length_decode : (m : ℕ) (b : List ℕ) → length b ≡ 4 * m → length (decode b) ≡ m
length_decode m (a ∷ b ∷ c ∷ d ∷ t) e = omega (arith, length_decode (m - 1) t (omega arith))
length_decode m (a ∷ b ∷ c ∷ []) e = absurd (omega arith)
length_decode m (a ∷ b ∷ []) e = absurd (omega arith)
length_decode m (a ∷ []) e = absurd (omega arith)
length_decode m [] e = omega arith

signed32_is : (u : ℕ) → to_z w32 u ≡ signed32 u
signed32_is u = grind arith

-- one number, as std's conversions give it
pub decode_four : (b : List ℕ) → length b ≡ 4 → decode b ≡ to_z w32 (from_le_bytes w32 b) ∷ []
decode_four (a ∷ b ∷ c ∷ d ∷ []) e = ap (λ (z : ℤ). z ∷ []) (sym (signed32_is (a + b * 256 ^ 1 + c * 256 ^ 2 + d * 256 ^ 3) ∙ ap signed32 (omega arith)))
decode_four (a ∷ b ∷ c ∷ d ∷ x ∷ t) e = absurd (omega arith)
decode_four (a ∷ b ∷ c ∷ []) e = absurd (omega arith)
decode_four (a ∷ b ∷ []) e = absurd (omega arith)
decode_four (a ∷ []) e = absurd (omega arith)
decode_four [] e = absurd (omega arith)

-- number i is that of chunk i
pub decode_at : (m : ℕ) (b : List ℕ) (i : ℕ) → i < m → length b ≡ 4 * m → to_z w32 (from_le_bytes w32 (get_or (first_chunks 4 m b) i [])) ≡ get_or (decode b) i (pos 0)
decode_at zero b i h e = absurd (omega arith)
decode_at (suc m) (a ∷ b ∷ c ∷ d ∷ t) zero h e = signed32_is (a + b * 256 ^ 1 + c * 256 ^ 2 + d * 256 ^ 3) ∙ ap signed32 (omega arith)
decode_at (suc m) (a ∷ b ∷ c ∷ d ∷ t) (suc i) h e = decode_at m t i (omega arith) (omega arith)
decode_at (suc m) (a ∷ b ∷ c ∷ []) i h e = absurd (omega arith)
decode_at (suc m) (a ∷ b ∷ []) i h e = absurd (omega arith)
decode_at (suc m) (a ∷ []) i h e = absurd (omega arith)
decode_at (suc m) [] i h e = absurd (omega arith)

-- chunk i has four
chunk_long : (m : ℕ) (b : List ℕ) (i : ℕ) → i < m → length b ≡ 4 * m → length (get_or (first_chunks 4 m b) i []) ≡ 4
chunk_long zero b i h e = absurd (omega arith)
chunk_long (suc m) b zero h e = grind (arith, common_steps)
chunk_long (suc m) b (suc i) h e = grind (arith, common_steps, chunk_long m (drop 4 b) i)

-- the one number of chunk i
pub decode_chunk : (m : ℕ) (b : List ℕ) (i : ℕ) {v : ℤ} → i < m → length b ≡ 4 * m → v ∷ [] ≡ decode (get_or (first_chunks 4 m b) i []) → v ≡ get_or (decode b) i (pos 0)
decode_chunk m b i h e q = ap (λ (l : List ℤ). get_or l 0 (pos 0)) (q ∙ decode_four (get_or (first_chunks 4 m b) i []) (chunk_long m b i h e)) ∙ decode_at m b i h e

-- ---- eight bytes a number

bits64_is : (v : ℤ) → of_z w64 v ≡ bits64 v
bits64_is v = grind arith

-- the k bytes from byte i on
least_first_at : (i k u : ℕ) → bytes_low_first i k u ≡ least_first k (u / 256 ^ i)
least_first_at i zero u = refl
least_first_at i (suc k) u = ap₂ (λ (a : ℕ) (l : List ℕ). a ∷ l) (low i) (least_first_at (suc i) k u ∙ ap (least_first k) (ap (λ (p : ℕ). u / p) (pow-suc 256 i) ∙ sym (div-div-eq-div-mul u (256 ^ i) 256)))
  where
    low : (i : ℕ) → byte_at i u ≡ u / 256 ^ i % 256
    low zero = ap (λ (v : ℕ). v % 256) (sym (div-one u))
    low (suc i) = refl

pub length_encode : (l : List ℤ) → length (encode l) ≡ 8 * length l
length_encode [] = refl
length_encode (v ∷ l) = omega (arith, length-append (least_first 8 (bits64 v)) (encode l), length_encode l)

pub eight_bytes : (v : ℤ) → to_le_bytes w64 (of_z w64 v) ≡ least_first 8 (bits64 v)
eight_bytes v = least_first_at 0 8 (of_z w64 v) ∙ ap (least_first 8) (div-one (of_z w64 v) ∙ bits64_is v)

-- a number more
encode_append : (l : List ℤ) (v : ℤ) → encode (l ++ v ∷ []) ≡ encode l ++ least_first 8 (bits64 v)
encode_append [] v = append-nil (least_first 8 (bits64 v))
encode_append (x ∷ l) v = simp (encode_append l v, append_assoc)

pub encode_more : (l : List ℤ) (i : ℕ) → i < length l → encode (take (suc i) l) ≡ encode (take i l) ++ least_first 8 (bits64 (get_or l i (pos 0)))
encode_more l i h = ap encode (take-suc l i (pos 0) h) ∙ encode_append (take i l) (get_or l i (pos 0))

-- ---- examples: FF FF FF FF 00 00 10 00 is -1 and 2^20; -2 and 2^37 as they are written

decoded_example : decode (255 ∷ 255 ∷ 255 ∷ 255 ∷ 0 ∷ 0 ∷ 16 ∷ 0 ∷ []) ≡ negsuc 0 ∷ pos 1048576 ∷ []
decoded_example = refl

encoded_example : encode (negsuc 1 ∷ pos 137438953472 ∷ []) ≡ 254 ∷ 255 ∷ 255 ∷ 255 ∷ 255 ∷ 255 ∷ 255 ∷ 255 ∷ 0 ∷ 0 ∷ 0 ∷ 0 ∷ 32 ∷ 0 ∷ 0 ∷ 0 ∷ []
encoded_example = refl
