-- Worked examples of the definitions, from the hash to six levels.
use Rattle.std.specs.Prelude.{◌≡◌, ℕ, ◌%◌, List, [], ◌∷◌, map, Some, None, Ok, Err, Option, Result}
use Rattle.refusals.specs.declared.Refusal.{Refusal}
use Rattle.murmur.specs.Hash.{murmur}
use Rattle.passes.specs.Forms.{tag_form}
use Rattle.bloom.specs.Bits.{position}
use Rattle.bloom.specs.Bloom.{BloomView, bloom_kind}
use Rattle.cuckoo.specs.Cells.{fingerprint, partner}
use Rattle.exact.specs.Exact.{ExactView, exact_kind}
use Rattle.levels.specs.declared.Side.{Side}
use Rattle.levels.specs.declared.Side.TheVariants.{For, Against}
use Rattle.levels.specs.Rows.{mark_of}
use Rattle.levels.specs.Deciders.{Answer, Decides}
use Rattle.piles.specs.Piles.{SixStates, six}

-- tag 42 of issuer 1
abbrev pub tag_42 : List ℕ
tag_42 = tag_form (record { issuer = 1; number = 42 })

-- six Bloom levels over the exact list
abbrev pub BloomStates : Type 0
BloomStates = SixStates BloomView BloomView BloomView BloomView BloomView BloomView ExactView

abbrev pub all_bloom : Decides BloomStates
all_bloom = six bloom_kind bloom_kind bloom_kind bloom_kind bloom_kind bloom_kind exact_kind

abbrev pub asked : Result BloomStates Refusal → List ℕ → Option Answer
asked (Ok s) x = Some (all_bloom.decides s x)
asked (Err e) x = None

-- what six levels built from one pass alone say of it: tables of 1 byte, hash count 1, salt 0
abbrev pub alone : Side → List ℕ → Option Answer
alone side x = asked (all_bloom.build (record { salt = 0; level = 1; hashes = 1 }) (1 ∷ 1 ∷ 1 ∷ 1 ∷ 1 ∷ 1 ∷ []) (record { form = x; mark = mark_of side } ∷ [])) x

pub record Examples : Type 0 where
  pub empty_at_0 : murmur 0 [] ≡ 0x00000000
  pub empty_at_1 : murmur 1 [] ≡ 0x514E28B7
  pub empty_at_most : murmur 0xFFFFFFFF [] ≡ 0x81F16F39
  pub test_at_0 : murmur 0 (0x74 ∷ 0x65 ∷ 0x73 ∷ 0x74 ∷ []) ≡ 0xBA6BD213
  pub positions : map (position 10 7 16) (0 ∷ 1 ∷ 2 ∷ []) ≡ 10 ∷ 1 ∷ 8 ∷ []
  pub highest_fingerprint : fingerprint 254 ≡ 255
  pub lowest_fingerprint : fingerprint 255 ≡ 1
  pub first_bucket : ◌≡◌ {A = ℕ} (9 % 8) 1
  pub second_bucket : partner 8 1 1 ≡ 4
  pub tag_written : tag_42 ≡ 0x54 ∷ 0x00 ∷ 0x01 ∷ 0x00 ∷ 0x00 ∷ 0x00 ∷ 0x00 ∷ 0x00 ∷ 0x00 ∷ 0x00 ∷ 0x2A ∷ []
  pub blocked_alone : alone For tag_42 ≡ Some (For, 2)
  pub good_alone : alone Against tag_42 ≡ Some (Against, 1)
