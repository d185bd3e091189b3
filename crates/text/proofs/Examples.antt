-- Document 01, 'Bench cases': "`sheetverdict` prints `answer 0`, `named 0 1`, `ring 0 1`, three lines" of P4, the verdict of nobody, "no bytes at all is 30";
-- and numbers at the edges; and the lines of a file with P4's sheet and no bytes at all (document 02, M-101).
use mathlib.Core.Path.{◌≡◌, refl}
use mathlib.Core.List.{List, [], ◌∷◌, ◌++◌}
use Prim.Native.Nat.{ℕ}
use lib.ListN.{replicate}
use Rattle.judge.specs.Verdict.{nobody}
use Rattle.judge.specs.declared.verdict.Verdict.{Verdict}
use Rattle.density.specs.declared.density.Density.{Density}
use Rattle.sheet_file.specs.Counted.{no_density}
use Rattle.text.specs.Density.{worded, density_words, sheet_line, total_line, stopped_line}
use Rattle.text.specs.Text.{decimal, digits_of, numbered}
use Rattle.text.specs.Verdict.{answer_word, named_word, ring_word, tasks_in, verdict_text}

abbrev p4 : Verdict
p4 = record { answer = 0; named = 3; count = 2; length = 2; ring = 0 ∷ 1 ∷ replicate 30 255 }

-- ` 0 1`, and the line's end
abbrev zero_one : List ℕ
zero_one = 32 ∷ 48 ∷ 32 ∷ 49 ∷ 10 ∷ []

pub p4_text : verdict_text p4 ≡ answer_word ++ (32 ∷ 48 ∷ 10 ∷ []) ++ (named_word ++ zero_one) ++ (ring_word ++ zero_one)
unfolding verdict_text tasks_in numbered decimal digits_of
p4_text = refl

pub nobody_text : verdict_text (nobody 0) ≡ answer_word ++ (32 ∷ 48 ∷ 10 ∷ []) ++ (named_word ++ (10 ∷ [])) ++ (ring_word ++ (10 ∷ []))
unfolding verdict_text tasks_in numbered decimal digits_of
nobody_text = refl

pub refusal_text : verdict_text (nobody 30) ≡ answer_word ++ (32 ∷ 51 ∷ 48 ∷ 10 ∷ [])
unfolding verdict_text tasks_in numbered decimal digits_of
refusal_text = refl

pub edge_numbers : numbered (9 ∷ 10 ∷ 255 ∷ 4294967295 ∷ [])
    ≡ (32 ∷ 57 ∷ []) ++ (32 ∷ 49 ∷ 48 ∷ []) ++ (32 ∷ 50 ∷ 53 ∷ 53 ∷ [])
    ++ (32 ∷ 52 ∷ 50 ∷ 57 ∷ 52 ∷ 57 ∷ 54 ∷ 55 ∷ 50 ∷ 57 ∷ 53 ∷ [])
unfolding numbered decimal digits_of
edge_numbers = refl

-- 2 ^ 64 - 1 has 20 digits
pub largest_number : decimal 18446744073709551615
    ≡ 49 ∷ 56 ∷ 52 ∷ 52 ∷ 54 ∷ 55 ∷ 52 ∷ 52 ∷ 48 ∷ 55 ∷ 51 ∷ 55 ∷ 48 ∷ 57 ∷ 53 ∷ 53 ∷ 49 ∷ 54 ∷ 49 ∷ 53 ∷ []
unfolding decimal digits_of
largest_number = refl

abbrev p4_density : Density
p4_density = record { blocked = 2; events = 2; task_edges = 2; event_edges = 2; task_event_edges = 4 }

pub sheet_text : sheet_line 1 (record { answer = 0; density = p4_density })
    ≡ (115 ∷ 104 ∷ 101 ∷ 101 ∷ 116 ∷ 32 ∷ 49 ∷ [])
    ++ (32 ∷ 98 ∷ 108 ∷ 111 ∷ 99 ∷ 107 ∷ 101 ∷ 100 ∷ 32 ∷ 50 ∷ [])
    ++ (32 ∷ 101 ∷ 118 ∷ 101 ∷ 110 ∷ 116 ∷ 115 ∷ 32 ∷ 50 ∷ [])
    ++ (32 ∷ 116 ∷ 97 ∷ 115 ∷ 107 ∷ 32 ∷ 50 ∷ [])
    ++ (32 ∷ 101 ∷ 118 ∷ 101 ∷ 110 ∷ 116 ∷ 32 ∷ 50 ∷ [])
    ++ (32 ∷ 116 ∷ 97 ∷ 115 ∷ 107 ∷ 45 ∷ 101 ∷ 118 ∷ 101 ∷ 110 ∷ 116 ∷ 32 ∷ 52 ∷ 10 ∷ [])
unfolding sheet_line density_words worded numbered decimal digits_of
sheet_text = refl

pub refused_text : sheet_line 2 (record { answer = 30; density = no_density })
    ≡ (115 ∷ 104 ∷ 101 ∷ 101 ∷ 116 ∷ 32 ∷ 50 ∷ [])
    ++ (32 ∷ 114 ∷ 101 ∷ 102 ∷ 117 ∷ 115 ∷ 101 ∷ 100 ∷ 32 ∷ 51 ∷ 48 ∷ 10 ∷ [])
unfolding sheet_line density_words worded numbered decimal digits_of
refused_text = refl

pub total_text : total_line (record { sheets = 1; refused = 1; density = p4_density })
    ≡ (116 ∷ 111 ∷ 116 ∷ 97 ∷ 108 ∷ 32 ∷ 115 ∷ 104 ∷ 101 ∷ 101 ∷ 116 ∷ 115 ∷ [])
    ++ (32 ∷ 49 ∷ 32 ∷ 114 ∷ 101 ∷ 102 ∷ 117 ∷ 115 ∷ 101 ∷ 100 ∷ [])
    ++ (32 ∷ 49 ∷ 32 ∷ 98 ∷ 108 ∷ 111 ∷ 99 ∷ 107 ∷ 101 ∷ 100 ∷ [])
    ++ (32 ∷ 50 ∷ 32 ∷ 101 ∷ 118 ∷ 101 ∷ 110 ∷ 116 ∷ 115 ∷ [])
    ++ (32 ∷ 50 ∷ 32 ∷ 116 ∷ 97 ∷ 115 ∷ 107 ∷ [])
    ++ (32 ∷ 50 ∷ 32 ∷ 101 ∷ 118 ∷ 101 ∷ 110 ∷ 116 ∷ [])
    ++ (32 ∷ 50 ∷ 32 ∷ 116 ∷ 97 ∷ 115 ∷ 107 ∷ 45 ∷ 101 ∷ 118 ∷ 101 ∷ 110 ∷ 116 ∷ [])
    ++ (32 ∷ 52 ∷ 10 ∷ [])
unfolding total_line density_words worded numbered decimal digits_of
total_text = refl

pub stopped_text : stopped_line 35 ≡ 115 ∷ 116 ∷ 111 ∷ 112 ∷ 112 ∷ 101 ∷ 100 ∷ 32 ∷ 51 ∷ 53 ∷ 10 ∷ []
unfolding stopped_line numbered decimal digits_of
stopped_text = refl
