mod Thrown
