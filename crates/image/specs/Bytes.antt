-- Numbers to bytes and back. Assumes nothing.
use Rattle.std.specs.Prelude.{◌≡◌, ℕ, ◌+◌, ◌*◌, ◌/◌, ◌%◌, ◌^◌, ◌<◌, List, [], ◌∷◌, ◌++◌}
use Rattle.std.proofs.Common.{sym, ap, ◌∙◌, arith, div-add-mod', mod-eq_of_lt}
use Rattle.std.proofs.Math.Nat.{div-div-eq-div-mul}
use Rattle.std.proofs.lemmas.Nat.{div_below, div-mul-add, mod-mul-add}
use Rattle.image.specs.Image.{be16, be32, be64, from16, from32, from64}

pub from16-be16 : (n : ℕ) (rest : List ℕ) → n < 65536 → from16 (be16 n ++ rest) 0 ≡ n
from16-be16 n rest l = omega arith

-- one byte more
split : (n k : ℕ) → n / k ≡ n / (k * 256) * 256 + n / k % 256
split n k = sym (div-add-mod' (n / k) 256) ∙ ap (λ (q : ℕ). q * 256 + n / k % 256) (div-div-eq-div-mul n k 256)

join4 : (n a b c p q r s : ℕ) → n ≡ a * 256 + s → a ≡ b * 256 + r → b ≡ c * 256 + q → p ≡ c → p * 16777216 + q * 65536 + r * 256 + s ≡ n
join4 n a b c p q r s e f g h = omega arith

join8 : (n a b c d e f g s t u v w x y z : ℕ) → n ≡ a * 256 + z → a ≡ b * 256 + y → b ≡ c * 256 + x → c ≡ d * 256 + w → d ≡ e * 256 + v → e ≡ f * 256 + u → f ≡ g * 256 + t → s ≡ g → s * 72057594037927936 + t * 281474976710656 + u * 1099511627776 + v * 4294967296 + w * 16777216 + x * 65536 + y * 256 + z ≡ n
join8 n a b c d e f g s t u v w x y z h1 h2 h3 h4 h5 h6 h7 h8 = omega arith

pub from32-be32 : (n : ℕ) → n < 2 ^ 32 → from32 (be32 n) ≡ n
from32-be32 n l =
    join4 n (n / 256) (n / 65536) (n / 16777216) _ _ _ _ (sym (div-add-mod' n 256)) (split n 256) (split n 65536) (mod-eq_of_lt (div_below n 16777216 256 (omega arith) l))

pub from64-be64 : (n : ℕ) → n < 2 ^ 64 → from64 (be64 n) ≡ n
from64-be64 n l =
    join8 n (n / 256) (n / 65536) (n / 16777216) (n / 4294967296) (n / 1099511627776) (n / 281474976710656) (n / 72057594037927936) _ _ _ _ _ _ _ _ (sym (div-add-mod' n 256)) (split n 256) (split n 65536) (split n 16777216) (split n 4294967296) (split n 1099511627776) (split n 281474976710656) (mod-eq_of_lt (div_below n 72057594037927936 256 (omega arith) l))

-- bytes to numbers and back
first : (n m z : ℕ) → n ≡ m * 256 + z → z < 256 → (n % 256 ≡ z) × (n / 256 ≡ m)
first n m z e l =
    (ap (λ (x : ℕ). x % 256) e ∙ mod-mul-add m 256 z l, ap (λ (x : ℕ). x / 256) e ∙ div-mul-add m 256 z l)

down : (n k m z : ℕ) → n / k ≡ m * 256 + z → z < 256 → (n / k % 256 ≡ z) × (n / (k * 256) ≡ m)
down n k m z e l =
    (ap (λ (x : ℕ). x % 256) e ∙ mod-mul-add m 256 z l, sym (div-div-eq-div-mul n k 256) ∙ ap (λ (x : ℕ). x / 256) e ∙ div-mul-add m 256 z l)

same4 : (a b c d p q r s : ℕ) → p ≡ a → q ≡ b → r ≡ c → s ≡ d → ◌≡◌ {A = List ℕ} (p ∷ q ∷ r ∷ s ∷ []) (a ∷ b ∷ c ∷ d ∷ [])
same4 a b c d p q r s e f g h = cc

pub be16-from16 : (a b : ℕ) → a < 256 → b < 256 → be16 (a * 256 + b) ≡ a ∷ b ∷ []
be16-from16 a b la lb =
    let s0 = first (a * 256 + b) a b (omega arith) lb in
    let s1 : (a * 256 + b) / 256 % 256 ≡ a = ap (λ (x : ℕ). x % 256) s0.1 ∙ mod-eq_of_lt la in
    same2 a b _ _ s1 s0.0
  where
    same2 : (a b p q : ℕ) → p ≡ a → q ≡ b → ◌≡◌ {A = List ℕ} (p ∷ q ∷ []) (a ∷ b ∷ [])
    same2 a b p q e f = cc

pub be32-from32 : (a b c d : ℕ) → a < 256 → b < 256 → c < 256 → d < 256 → be32 (from32 (a ∷ b ∷ c ∷ d ∷ [])) ≡ a ∷ b ∷ c ∷ d ∷ []
be32-from32 a b c d la lb lc ld =
    let n : ℕ = a * 16777216 + b * 65536 + c * 256 + d in
    let s0 = first n (a * 65536 + b * 256 + c) d (omega arith) ld in
    let s1 = down n 256 (a * 256 + b) c (s0.1 ∙ omega arith) lc in
    let s2 = down n 65536 a b s1.1 lb in
    same4 a b c d _ _ _ _ (ap (λ (x : ℕ). x % 256) s2.1 ∙ mod-eq_of_lt la) s2.0 s1.0 s0.0

same8 : (a b c d e f g h p q r s t u v w : ℕ) → p ≡ a → q ≡ b → r ≡ c → s ≡ d → t ≡ e → u ≡ f → v ≡ g → w ≡ h → ◌≡◌ {A = List ℕ} (p ∷ q ∷ r ∷ s ∷ t ∷ u ∷ v ∷ w ∷ []) (a ∷ b ∷ c ∷ d ∷ e ∷ f ∷ g ∷ h ∷ [])
same8 a b c d e f g h p q r s t u v w h1 h2 h3 h4 h5 h6 h7 h8 = cc

pub be64-from64 : (a b c d e f g h : ℕ) → a < 256 → b < 256 → c < 256 → d < 256 → e < 256 → f < 256 → g < 256 → h < 256 → be64 (from64 (a ∷ b ∷ c ∷ d ∷ e ∷ f ∷ g ∷ h ∷ [])) ≡ a ∷ b ∷ c ∷ d ∷ e ∷ f ∷ g ∷ h ∷ []
be64-from64 a b c d e f g h la lb lc ld le lf lg lh =
    let n : ℕ = a * 72057594037927936 + b * 281474976710656 + c * 1099511627776 + d * 4294967296 + e * 16777216 + f * 65536 + g * 256 + h in
    let s0 = first n (a * 281474976710656 + b * 1099511627776 + c * 4294967296 + d * 16777216 + e * 65536 + f * 256 + g) h (omega arith) lh in
    let s1 = down n 256 (a * 1099511627776 + b * 4294967296 + c * 16777216 + d * 65536 + e * 256 + f) g (s0.1 ∙ omega arith) lg in
    let s2 = down n 65536 (a * 4294967296 + b * 16777216 + c * 65536 + d * 256 + e) f (s1.1 ∙ omega arith) lf in
    let s3 = down n 16777216 (a * 16777216 + b * 65536 + c * 256 + d) e (s2.1 ∙ omega arith) le in
    let s4 = down n 4294967296 (a * 65536 + b * 256 + c) d (s3.1 ∙ omega arith) ld in
    let s5 = down n 1099511627776 (a * 256 + b) c (s4.1 ∙ omega arith) lc in
    let s6 = down n 281474976710656 a b s5.1 lb in
    same8 a b c d e f g h _ _ _ _ _ _ _ _ (ap (λ (x : ℕ). x % 256) s6.1 ∙ mod-eq_of_lt la) s6.0 s5.0 s4.0 s3.0 s2.0 s1.0 s0.0

pub from64-small : (a b c d e f g h : ℕ) → a < 256 → b < 256 → c < 256 → d < 256 → e < 256 → f < 256 → g < 256 → h < 256 → from64 (a ∷ b ∷ c ∷ d ∷ e ∷ f ∷ g ∷ h ∷ []) < 2 ^ 64
from64-small a b c d e f g h la lb lc ld le lf lg lh = omega arith

pub from32-small : (a b c d : ℕ) → a < 256 → b < 256 → c < 256 → d < 256 → from32 (a ∷ b ∷ c ∷ d ∷ []) < 2 ^ 32
from32-small a b c d la lb lc ld = omega arith
