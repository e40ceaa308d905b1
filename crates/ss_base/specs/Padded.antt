-- How a short text keeps its bytes.
use Rattle.std.specs.Prelude.{ℕ, ◌-◌, ◌≡◌, List, length, take, drop, replicate, ◌++◌}
use Rattle.std.proofs.Common.{sym, ap, ◌∙◌}
use Rattle.std.proofs.lemmas.List.{take-append-drop}
use Rattle.ss_base.specs.declared.short_text.ShortText.TheInside.{Inside}

module _ {N : ℕ} where
  -- the bytes of a short text
  abbrev pub text_bytes : Inside N → List ℕ
  text_bytes s = take s.len s.bytes

  -- the text fits, and zeros stand behind it
  pub record IsPadded (s : Inside N) : Type 0 where
    pub len : length (text_bytes s) ≡ s.len
    pub padding : drop s.len s.bytes ≡ replicate (N - s.len) 0

  -- the fields of the text with these bytes
  abbrev pub padded : List ℕ → Inside N
  padded text = record { bytes = text ++ replicate (N - length text) 0; len = length text }

  -- a text's bytes give its fields back
  pub padded-text_bytes : (s : Inside N) → IsPadded s → padded (text_bytes s) ≡ s
  padded-text_bytes s p =
      let zeros : replicate (N - length (text_bytes s)) 0 ≡ drop s.len s.bytes = ap (λ n. replicate (N - n) 0) p.len ∙ sym p.padding in
      let whole : text_bytes s ++ replicate (N - length (text_bytes s)) 0 ≡ s.bytes = ap (λ zs. text_bytes s ++ zs) zeros ∙ take-append-drop s.len s.bytes in
      λ i. record { bytes = whole i; len = p.len i }
