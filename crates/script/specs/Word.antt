-- The words of script lines (01, "Script lines"), and the code that each has as a call's row has it.
use Rattle.std.specs.Prelude.{ℕ, suc, Bool, true, false, cond, ◌&&◌, List, [], ◌∷◌, eqb, get_or, Option, Some, None}
use Rattle.script.specs.declared.word.CodedForm.{CodedForm}

-- a form of a line: its word, and how many numbers follow it
pub record Form : Type 0 where
  pub word : List ℕ
  pub count : ℕ

abbrev form : List ℕ → ℕ → Form
form w k = record { word = w; count = k }

-- in the order of 01
unfoldable pub forms : List Form
forms =
    form (116 ∷ 114 ∷ 97 ∷ 99 ∷ 107 ∷ []) 3  -- track,T,min,max
    ∷ form (115 ∷ 116 ∷ 97 ∷ 114 ∷ 116 ∷ []) 2  -- start,T,p
    ∷ form (101 ∷ 110 ∷ 100 ∷ []) 2  -- end,T,p
    ∷ form (108 ∷ 111 ∷ 111 ∷ 112 ∷ 115 ∷ []) 2  -- loops,T,n
    ∷ form (114 ∷ 101 ∷ 112 ∷ 101 ∷ 97 ∷ 116 ∷ []) 2  -- repeat,T,f
    ∷ form (100 ∷ 105 ∷ 114 ∷ []) 2  -- dir,T,d
    ∷ form (112 ∷ 111 ∷ 105 ∷ 110 ∷ 116 ∷ []) 6  -- point,T,p,event,wait,command,target
    ∷ form (100 ∷ 114 ∷ 111 ∷ 112 ∷ []) 2  -- drop,T,p
    ∷ form (97 ∷ 99 ∷ 116 ∷ 105 ∷ 111 ∷ 110 ∷ []) 4  -- action,T,from,to,event
    ∷ form (106 ∷ 117 ∷ 109 ∷ 112 ∷ []) 2  -- jump,T,p
    ∷ form (112 ∷ 108 ∷ 97 ∷ 121 ∷ []) 1  -- play,T
    ∷ form (112 ∷ 97 ∷ 117 ∷ 115 ∷ 101 ∷ []) 1  -- pause,T
    ∷ form (114 ∷ 101 ∷ 115 ∷ 117 ∷ 109 ∷ 101 ∷ []) 1  -- resume,T
    ∷ form (115 ∷ 116 ∷ 111 ∷ 112 ∷ []) 1  -- stop,T
    ∷ form (97 ∷ 100 ∷ 118 ∷ 97 ∷ 110 ∷ 99 ∷ 101 ∷ []) 1  -- advance,n
    ∷ form (99 ∷ 108 ∷ 101 ∷ 97 ∷ 114 ∷ []) 0  -- clear
    ∷ []

-- past the forms
abbrev pub no_form : Form
no_form = record { word = []; count = 0 }

unfoldable pub same : List ℕ → List ℕ → Bool
same [] [] = true
same [] (b ∷ t) = false
same (a ∷ s) [] = false
same (a ∷ s) (b ∷ t) = eqb a b && same s t

-- the code of a word among forms, of which the first has the code k; 0 is the code of no call
unfoldable pub code_from : ℕ → List ℕ → List Form → ℕ
code_from k w [] = 0
code_from k w (f ∷ fs) = cond (same w f.word) k (code_from (suc k) w fs)

-- 1 to 16 in the order of 01, as in a call's row
abbrev pub code_of : List ℕ → ℕ
code_of w = code_from 1 w forms

-- how many numbers a code takes
abbrev pub numbers_after : ℕ → ℕ
numbers_after c = (get_or (no_form ∷ forms) c no_form).count

-- ---- as the code finds it

-- the code of a word's form, and how many numbers it takes; none if the word is that of no call
abbrev pub form_of : List ℕ → Option CodedForm
form_of w = cond (eqb (code_of w) 0) None (Some (record { code = code_of w; count = numbers_after (code_of w) }))
