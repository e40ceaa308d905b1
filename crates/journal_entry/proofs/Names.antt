-- The test of a stream's name.
use Rattle.std.proofs.Common.{◌≡◌, ℕ, true, false, ◌&&◌, leb, List, length, Some, None, refl}
use mathlib.Core.Logic.{⊎_elim}
use Rattle.std.specs.List.{list_all}
use Rattle.std.proofs.lemmas.Bool.{cases_Bool, leb-true, le-leb, and_parts, and_from}
use Rattle.std.proofs.lemmas.List.Sums.{AllPass-from_list_all, list_all-from_AllPass}
use Rattle.ss_base.specs.StreamName.{IsStreamName, is_stream_byte}
use Rattle.journal_entry.specs.Reading.{is_name, byte_at, bytes_at, stream_name_at}

pub is_name-true : (text : List ℕ) → IsStreamName text → is_name text ≡ true
is_name-true text name =
    and_from (leb 1 (length text)) (leb (length text) 64 && list_all is_stream_byte text) (le-leb _ _ name.some)
    (and_from (leb (length text) 64) (list_all is_stream_byte text) (le-leb _ _ name.fits) (list_all-from_AllPass is_stream_byte text name.bytes))

pub IsStreamName-from : (text : List ℕ) → is_name text ≡ true → IsStreamName text
IsStreamName-from text e =
    let p = and_parts (leb 1 (length text)) (leb (length text) 64 && list_all is_stream_byte text) e in
    let q = and_parts (leb (length text) 64) (list_all is_stream_byte text) p.1 in
    record { some = leb-true _ _ p.0; fits = leb-true _ _ q.0; bytes = AllPass-from_list_all is_stream_byte text q.1 }

is_name-false : (text : List ℕ) → (IsStreamName text → ⊥) → is_name text ≡ false
is_name-false text none = ⊎_elim (λ yes. absurd (none (IsStreamName-from text yes))) (λ no. no) (cases_Bool (is_name text))

-- a name is read
pub named : (bytes : List ℕ) (n : ℕ) (after text rest : List ℕ) → byte_at bytes ≡ Some (n, after) → bytes_at n after ≡ Some (text, rest) → IsStreamName text → stream_name_at bytes ≡ Some (text, rest)
unfolding stream_name_at
named bytes n after text rest a b name = rw (a, b, is_name-true text name) refl

-- what is no name is not read
pub unnamed : (bytes : List ℕ) (n : ℕ) (after text rest : List ℕ) → byte_at bytes ≡ Some (n, after) → bytes_at n after ≡ Some (text, rest) → (IsStreamName text → ⊥) → stream_name_at bytes ≡ None
unfolding stream_name_at
unnamed bytes n after text rest a b none = rw (a, b, is_name-false text none) refl
