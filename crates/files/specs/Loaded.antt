-- A file that was looked for.
use Rattle.std.specs.Prelude.{ℕ, if◌then◌else◌, Bool, true, false, Option, None, Some, Result, Ok, Err}
use Rattle.files.specs.declared.Told.{Told}

-- there is no such file
abbrev pub is_missing : Result (Option ℕ) Told → Bool
is_missing (Ok None) = true
is_missing (Ok (Some n)) = false
is_missing (Err e) = false

-- it is there and can't be read
abbrev pub is_failed : Result (Option ℕ) Told → Bool
is_failed (Ok None) = false
is_failed (Ok (Some n)) = false
is_failed (Err e) = true

-- its whole size; 0 of a file that is missing
abbrev pub size_of : Result (Option ℕ) Told → ℕ
size_of (Ok None) = 0
size_of (Ok (Some n)) = n
size_of (Err e) = 0

-- its whole size; none of a file that is missing
abbrev pub size_if_there : Result (Option ℕ) Told → Option ℕ
size_if_there l = if is_missing l then None else Some (size_of l)
