-- No mnemonic is longer than six letters: by each instruction's own.
mod Short
