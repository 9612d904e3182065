use Rattle.std.proofs.Common.{◌≡◌, ◌++◌, ◌∷◌, [], List, ap, codes, ◌∙◌, refl}
use Rattle.http1.specs.Fields.{Header}
use Rattle.http_server.specs.Response.{fields_of}
use Rattle.plc_page.specs.Answers.{kind_field}
use Rattle.plc_page.specs.declared.page.TheConstants.{POLICY}
use Rattle.plc_page.proofs.answer.put_fields.Goals as goal

-- what was added one by one stands there together
five : {X : Type 0} (s : List X) (a b c d e : X) → ((((s ++ a ∷ []) ++ b ∷ []) ++ c ∷ []) ++ d ∷ []) ++ e ∷ [] ≡ s ++ (a ∷ b ∷ c ∷ d ∷ e ∷ [])
five [] a b c d e = refl
five (x ∷ s) a b c d e = ap (λ l. x ∷ l) (five s a b c d e)

pub returns-clause-headers : goal.returns-clause-headers
returns-clause-headers c =
    let kind : Header = kind_field c.args.verdict in
    let kept : Header = (codes "cache-control", codes "no-store") in
    let sniffed : Header = (codes "x-content-type-options", codes "nosniff") in
    let policy : Header = (codes "content-security-policy", POLICY.now) in
    let allowed : Header = (codes "allow", codes "GET, HEAD") in
    let second = c.in_ok-add.ensures.headers ∙ ap (λ (l : List Header). l ++ kept ∷ []) c.in_ok-add_kind.ensures.headers in
    let third = c.in_ok-add-2.ensures.headers ∙ ap (λ (l : List Header). l ++ sniffed ∷ []) second in
    let fourth = c.in_ok-add-3.ensures.headers ∙ ap (λ (l : List Header). l ++ policy ∷ []) third in
    let fifth = c.in_ok-add-4.ensures.headers ∙ ap (λ (l : List Header). l ++ allowed ∷ []) fourth in
    fifth ∙ five (fields_of c.args.response.now) kind kept sniffed policy allowed
