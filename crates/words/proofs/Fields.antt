-- A word field by field, as document 01 lists them, and its four bytes together.
--     word_diverges, word_call, word_tag, word_zero, word_number     "diverges 1, call 2, tag 3, zero 12, number 14"
--     word_small     a word has 32 bits
--     bytes_word     its bytes, big-endian, are the word
-- Assumes nothing.
use Prim.Native.Nat.{ℕ, ◌+◌, ◌*◌, ◌/◌, ◌^◌, ◌<◌}
use mathlib.Core.Path.{◌≡◌}
use mathlib.Core.Bool.{Bool}
use native.Mathlib.Omega.{arith}
use Rattle.laws.specs.Lists.{bit}
use Rattle.pack.specs.Read.{field, last}
use Rattle.unionfind.specs.Codes.{tag, number}
use Rattle.words.specs.Words.{encode, word_byte}
use Rattle.words.proofs.Noting.{bit_small}

module _ (d : Bool) (call x : ℕ) where
  pub word_small : encode d call x < 2 ^ 32
  unfolding encode
  word_small = omega (arith, bit_small d)

  pub word_diverges : field (encode d call x) 31 1 ≡ bit d
  unfolding encode
  word_diverges = omega (arith, bit_small d)

  pub word_call : call < 4 → field (encode d call x) 29 2 ≡ call
  unfolding encode
  word_call h = omega (arith, bit_small d)

  pub word_tag : tag x < 8 → field (encode d call x) 26 3 ≡ tag x
  unfolding encode
  word_tag h = omega (arith, bit_small d)

  pub word_zero : field (encode d call x) 14 12 ≡ 0
  unfolding encode
  word_zero = omega (arith, bit_small d)

  pub word_number : last (encode d call x) 14 ≡ number x
  unfolding encode
  word_number = omega (arith, bit_small d)

-- a number taken apart byte by byte, and put together
join : (w a b c p q r s : ℕ) → w ≡ a * 256 + s → a ≡ b * 256 + r → b ≡ c * 256 + q → p ≡ c → (p * 256 + q) * 65536 + (r * 256 + s) ≡ w
join w a b c p q r s h k l m = omega arith

pub bytes_word : (w : ℕ) → w < 2 ^ 32 → (word_byte w 0 * 256 + word_byte w 1) * 65536 + (word_byte w 2 * 256 + word_byte w 3) ≡ w
unfolding word_byte
bytes_word w h =
    let two : w / 65536 ≡ w / 256 / 256 = omega arith in
    let three : w / 16777216 ≡ w / 256 / 256 / 256 = omega arith in
    join w (w / 256) (w / 256 / 256) (w / 256 / 256 / 256) (word_byte w 0) (word_byte w 1) (word_byte w 2) (word_byte w 3)
    (omega arith) (omega arith) (omega (arith, two)) (omega (arith, three))
