-- What a new file has.
use Rattle.std.proofs.Common.{◌≡◌, ℕ, List, [], ◌++◌, sym, ap, ap₂, ◌∙◌, append_assoc}
use Rattle.std.proofs.lemmas.List.{append-nil}
use Rattle.vr_journal.specs.declared.record.Kind.TheVariants.{Head, Start}
use Rattle.vr_journal.specs.Records.{Entry, first_sum, record_bytes, spelt, sum_behind, sum_behind_all}
use Rattle.vr_journal.specs.Journals.{base, beginning, head_bytes, number}

abbrev headed : List ℕ → Entry
headed bytes = record { kind = Head; bytes = bytes }

pub begun : (none one two three bytes owner what : List ℕ) (generation start s t : ℕ) → none ≡ [] → bytes ≡ head_bytes owner generation
    → one ≡ none ++ record_bytes first_sum (record { kind = Head; bytes = bytes }) → s ≡ sum_behind first_sum (record { kind = Head; bytes = bytes })
    → two ≡ one ++ record_bytes s (number Start start) → t ≡ sum_behind s (number Start start)
    → three ≡ two ++ record_bytes t (base what) → three ≡ spelt first_sum (beginning owner generation start what)
begun none one two three bytes owner what generation start s t z ih f g h k m =
    let first : List ℕ = record_bytes first_sum (headed (head_bytes owner generation)) in
    let s' : ℕ = sum_behind first_sum (headed (head_bytes owner generation)) in
    let second : List ℕ = record_bytes s' (number Start start) in
    let t' : ℕ = sum_behind s' (number Start start) in
    let third : List ℕ = record_bytes t' (base what) in
    let a : one ≡ first = f ∙ ap₂ (λ (o b : List ℕ). o ++ record_bytes first_sum (headed b)) z ih in
    let b : s ≡ s' = g ∙ ap (λ (x : List ℕ). sum_behind first_sum (headed x)) ih in
    let c : two ≡ first ++ second = h ∙ ap₂ (λ (o : List ℕ) (x : ℕ). o ++ record_bytes x (number Start start)) a b in
    let d : t ≡ t' = k ∙ ap (λ (x : ℕ). sum_behind x (number Start start)) b in
    let e : three ≡ (first ++ second) ++ third = m ∙ ap₂ (λ (o : List ℕ) (x : ℕ). o ++ record_bytes x (base what)) c d in
    e ∙ append_assoc first second third ∙ ap (λ (x : List ℕ). first ++ (second ++ x)) (sym (append-nil third))

pub begun_sum : (bytes owner what : List ℕ) (generation start s t u : ℕ) → bytes ≡ head_bytes owner generation → s ≡ sum_behind first_sum (record { kind = Head; bytes = bytes })
    → t ≡ sum_behind s (number Start start) → u ≡ sum_behind t (base what) → u ≡ sum_behind_all first_sum (beginning owner generation start what)
begun_sum bytes owner what generation start s t u ih g k m =
    let b : s ≡ sum_behind first_sum (headed (head_bytes owner generation)) = g ∙ ap (λ (x : List ℕ). sum_behind first_sum (headed x)) ih in
    let d : t ≡ sum_behind (sum_behind first_sum (headed (head_bytes owner generation))) (number Start start) = k ∙ ap (λ (x : ℕ). sum_behind x (number Start start)) b in
    m ∙ ap (λ (x : ℕ). sum_behind x (base what)) d
