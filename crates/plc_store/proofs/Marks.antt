-- A mark has its image.
use Rattle.std.proofs.Common.{◌≡◌, ◌<◌, ◌≤◌, ◌+◌, ◌-◌, ◌++◌, ℕ, true, false, List, length, take, drop, Some, refl, ap, ◌∙◌, arith, length-append}
use Rattle.std.specs.Prelude.{bytes_eq, nat_le}
use Rattle.std.proofs.lemmas.List.{take_at, drop_at}
use Rattle.std.proofs.lemmas.Bool.Decides.{nat_tests}
use Rattle.std.proofs.lemmas.Slice.Eq.{bytes_eq-Decides}
use Rattle.sha2.proofs.Facts256.{length-sha256}
use Rattle.std.specs.Int.{w64, to_be_bytes}
use Rattle.net_hello.specs.declared.hello.Epoch.{Epoch}
use Rattle.plc_store.specs.Marking.{changed_image, image_between, mark_bytes, mark_sum}
use Rattle.plc_store.specs.Spelling.{epoch_bytes}

same_bytes : (xs : List ℕ) → bytes_eq xs xs ≡ true
same_bytes xs = (bytes_eq-Decides xs xs).1 refl

is_long : (n : ℕ) → 72 < n → nat_le n 72 ≡ false
is_long n lt = grind (arith, nat_tests)

minus : (n m k : ℕ) → n ≡ m + k → n - k ≡ m
minus n m k is = omega arith

between : (epoch : Epoch) (image : List ℕ) → image_between epoch (epoch_bytes epoch) image (mark_sum (epoch_bytes epoch) image) ≡ Some image
between epoch image = rw (same_bytes (epoch_bytes epoch), same_bytes (mark_sum (epoch_bytes epoch) image)) refl

-- what stands between the first 40 bytes and the last 32
cut_so : (epoch : Epoch) (front image sum : List ℕ) → length front ≡ 40 → length sum ≡ 32 → 0 < length image
    → changed_image epoch (front ++ (image ++ sum)) ≡ image_between epoch front image sum
cut_so epoch front image sum front_long sum_long some =
    let rest_long : length (image ++ sum) ≡ length image + 32 = omega (arith, length-append image sum, sum_long) in
    let long : 72 < length (front ++ (image ++ sum)) = omega (arith, length-append front (image ++ sum), front_long, rest_long, some) in
    let count : length (image ++ sum) - 32 ≡ length image = minus (length (image ++ sum)) (length image) 32 rest_long in
    rw (
      is_long (length (front ++ (image ++ sum))) long,
      take_at front (image ++ sum) 40 front_long,
      drop_at front (image ++ sum) 40 front_long,
      count,
      take_at image sum (length image) refl,
      drop_at image sum (length image) refl,
    ) refl

pub image_of : (epoch : Epoch) (image : List ℕ) → length epoch.image ≡ 32 → 0 < length image → changed_image epoch (mark_bytes epoch image) ≡ Some image
image_of epoch image whole some =
    let front_long : length (epoch_bytes epoch) ≡ 40 = omega (arith, length-append (to_be_bytes w64 epoch.number) epoch.image, whole) in
    cut_so epoch (epoch_bytes epoch) image (mark_sum (epoch_bytes epoch) image) front_long (length-sha256 (epoch_bytes epoch ++ image)) some
    ∙ between epoch image
