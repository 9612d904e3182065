-- HMAC (FIPS 198-1, section 4) with SHA-256, whose blocks have 64 bytes and whose digests have 32.
use Rattle.std.specs.Prelude.{◌≡◌, ℕ, ◌-◌, List, ◌++◌, length, map, replicate, nat_lt, bit_xor, if◌then◌else◌}
use Rattle.sha2.specs.Sha256.{sha256}
use Rattle.sha2.specs.Hashers.{Holds256}
use Rattle.net_keys.specs.declared.hmac.Hmac.{Hmac}

-- a key that is no longer than a block: a longer one is hashed (step 2)
abbrev pub short_key : List ℕ → List ℕ
short_key key = if nat_lt 64 (length key) then sha256 key else key

-- filled up by zeros to a block (steps 1 and 3)
abbrev pub filled : List ℕ → List ℕ
filled bytes = bytes ++ replicate (64 - length bytes) 0

abbrev pub key_block : List ℕ → List ℕ
key_block key = filled (short_key key)

-- each byte of a block, by exclusive or with this one
abbrev pub xored : List ℕ → ℕ → List ℕ
xored block by = map (λ byte. bit_xor byte by) block

-- the block's bytes with 0x36 before the text, hashed, and that with 0x5C before it, hashed again (steps 4 to 9)
unfoldable pub hmac : List ℕ → List ℕ → List ℕ
hmac key text = sha256 (xored (key_block key) 0x5C ++ sha256 (xored (key_block key) 0x36 ++ text))

-- ---- a text that comes in pieces

-- it's the sum in the making of so much of a text, under this key
abbrev pub Sums : Hmac → List ℕ → List ℕ → Type 0
Sums h key text = Holds256 h.inner (xored (key_block key) 0x36 ++ text) × Holds256 h.outer (xored (key_block key) 0x5C)
