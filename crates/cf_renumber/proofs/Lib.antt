mod Counting
mod Greatest
mod Lists
mod Runs
mod Window
