-- The lines by which a browser begins, whatever it's led to: those of HTTP/1.1.
use Rattle.std.specs.Prelude.{◌==◌, ◌||◌, ◌&&◌, ℕ, nat_eq, nat_le, not, Bool, List, drop, codes}
use Rattle.std.specs.List.{starts_with, ends_with, prefix_len, list_any}

-- a letter or a digit
abbrev pub is_alphanumeric : ℕ → Bool
is_alphanumeric b = (nat_le 48 b && nat_le b 57) || ((nat_le 65 b && nat_le b 90) || (nat_le 97 b && nat_le b 122))

-- a byte that a token may have (RFC 9110, section 5.6.2)
abbrev pub is_token_byte : ℕ → Bool
is_token_byte b = is_alphanumeric b || list_any (λ mark. nat_eq mark b) (codes "!#$%&'*+-.^_`|~")

-- how long the token is that a line begins with
abbrev pub token_len : List ℕ → ℕ
token_len line = prefix_len is_token_byte line

-- a token and a colon: a field of a header (RFC 9112, section 5)
abbrev pub is_field_line : List ℕ → Bool
is_field_line line = not (token_len line == 0) && starts_with nat_eq (drop (token_len line) line) (codes ":")

-- the version at its end, where a line's CR may be: what a request begins with (section 3)
abbrev pub is_request_line : List ℕ → Bool
is_request_line line = (ends_with nat_eq line (codes " HTTP/1.1") || ends_with nat_eq line (codes " HTTP/1.1\r"))
    || (ends_with nat_eq line (codes " HTTP/1.0") || ends_with nat_eq line (codes " HTTP/1.0\r"))

abbrev pub is_of_http : List ℕ → Bool
is_of_http line = is_request_line line || is_field_line line
