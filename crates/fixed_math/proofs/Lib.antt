mod Positive
